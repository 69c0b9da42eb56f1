use Rattle.std.proofs.Common.{◌+◌, List, [], ◌∷◌, ◌++◌, sym, ap, ◌∙◌, subst}
use Rattle.chord_segment.specs.declared.mark.Mark.{Mark}
use Rattle.chord_segment.specs.Marks.{mark_of, raise}
use Rattle.chord_handover.specs.Handover.{Item}
use Rattle.chord_handover.specs.Outbox.{IsOutbox}
use Rattle.chord_handover.proofs.Sending.{gave_keeps}
use Rattle.chord_handover.proofs.outbox.Outbox.give.Goals as goal

pub invariant_of-self-2 : goal.invariant_of-self-2
invariant_of-self-2 c =
    let outbox = c.self.inside in
    let number = c.number_of-last.result + 1 in
    let item : Item = record { to = c.args.to; number = number; segment = c.args.payload.segment; pairs = c.args.payload.pairs } in
    let marks = c.raise_mark.ensures.items ∙ ap (raise c.args.to number) c.reserve.ensures.items in
    let items = c.push_reserved.ensures.items ∙ ap (λ (all : List Item). all ++ item ∷ []) c.reserve-else-is_err.ensures.items in
    let last = c.number_of-last.ensures ∙ ap (mark_of c.args.to) c.deref.ensures.value in
    subst (λ (all : List Mark). IsOutbox all c.push_reserved.new.self.items) (sym marks)
    (subst (λ (all : List Item). IsOutbox (raise c.args.to number outbox.given.items) all) (sym items)
    (gave_keeps outbox.given.items outbox.items.items item c.self.invariant (ap (λ n. n + 1) last)))
