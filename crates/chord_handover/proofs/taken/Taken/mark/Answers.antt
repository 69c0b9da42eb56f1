use Rattle.std.proofs.Common.{rules, ◌≡◌, ◌+◌, List, not, eqb, ap, ◌∙◌}
use Rattle.std.proofs.lemmas.Fn.{filter_same}
use Rattle.chord_segment.specs.declared.mark.Mark.{Mark}
use Rattle.chord_segment.specs.Marks.{mark_of, raise}
use Rattle.chord_handover.specs.Handover.{Part}
use Rattle.chord_handover.specs.Taken.{Taken, RoomyTaken, with_mark}
use Rattle.chord_handover.proofs.taken.Taken.mark.Goals as goal

taken_is : (last last' : List Mark) (buffered buffered' : List Part) → last ≡ last' → buffered ≡ buffered' → ◌≡◌ {A = Taken} (record { last = last; buffered = buffered }) (record { last = last'; buffered = buffered' })
taken_is last last' buffered buffered' e f = cc

pub returns : goal.returns
returns c =
    let from = c.args.from in
    let next = c.number_of-next.ensures ∙ ap (mark_of from) c.deref.ensures.value in
    let last = c.raise_mark.ensures.items ∙ ap (λ n. raise from (n + 1) c.self.inside.last.items) next in
    let buffered = filter_same _ (λ (part : Part). not (eqb part.from from)) _ (λ x b f called. (search rules, search rules)) _ _ c.retain.ensures.filtered in
    taken_is _ _ _ _ last buffered ∙ ap (with_mark from) (ap (λ (taken : RoomyTaken). taken.taken) c.self.view_is)
