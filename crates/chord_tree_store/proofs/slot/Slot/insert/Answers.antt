use Rattle.std.proofs.Common.{sym, ap, ◌∙◌}
use Rattle.chord_map.specs.declared.reply.Reply.TheVariants as reply
use Rattle.chord_map.specs.declared.request.Request.TheVariants.{Insert}
use Rattle.chord_map.specs.Map.{insert_pair}
use Rattle.chord_map.proofs.MapLemmas.{pair_of}
use Rattle.chord_map.proofs.Replies.{after_reply}
use Rattle.chord_tree_store.specs.declared.slot.Slot.TheVariants.{One}
use Rattle.chord_tree_store.specs.Slot.{pairs_of}
use Rattle.chord_tree_store.proofs.Added.{refused_add}
use Rattle.chord_tree_store.proofs.Under.{own_adds, second_adds}
use Rattle.chord_tree_store.proofs.slot.Slot.insert.Goals as goal

pub returns-then-eq : goal.returns-then-eq
returns-then-eq c =
    own_adds c.args.self.now c.in-One.own c.in-One.set c.in-One.is c.args.key.now c.args.value.now (sym c.eq.ensures ∙ c.if-eq.true) c.insert.new.self c.insert.result c.insert.ensures

pub returns-in_err-many-in-One : goal.returns-in_err-many-in-One
returns-in_err-many-in-One c =
    refused_add (pair_of c.args.key.now c.args.value.now) (pairs_of c.args.self.now) (pairs_of (One c.in-One.own c.in-One.set)) _ c.from_residual.result c.from_residual.ensures.1
    (second_adds c.args.self.now c.in-One.own c.in-One.set c.in-One.is c.args.key.now c.args.value.now (sym c.eq.ensures ∙ c.if-eq.false)) (ap pairs_of (sym c.in-One.is))

pub returns : goal.returns
returns c =
    let due = second_adds c.args.self.now c.in-One.own c.in-One.set c.in-One.is c.args.key.now c.args.value.now (sym c.eq.ensures ∙ c.if-eq.false) in (
      due,
      c.in_ok-many-in-One.ensures ∙ ap (λ s. insert_pair (pair_of c.args.key.now c.args.value.now) (pairs_of s)) (sym c.in-One.is)
          ∙ sym (after_reply (Insert c.args.key.now c.args.value.now) reply.Added (pairs_of c.args.self.now) due),
    )
