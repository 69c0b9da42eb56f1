use Rattle.std.proofs.Common.{◌≡◌, None, rules, eqb, ap, sym, ◌∙◌}
use Rattle.std.specs.HashMap.{get}
use Rattle.chord_map.specs.declared.reply.Reply.TheVariants as reply
use Rattle.chord_map.specs.declared.request.Request.TheVariants.{Insert}
use Rattle.chord_map.specs.Map.{insert_pair}
use Rattle.chord_map.proofs.MapLemmas.{pair_of}
use Rattle.chord_map.proofs.Replies.{after_reply}
use Rattle.chord_tree_store.specs.Slot.{pairs_at}
use Rattle.chord_tree_store.proofs.Added.{refused_add, vacant_adds}
use Rattle.chord_tree_store.proofs.shard.place_in.Goals as goal

pub returns-in_err-one-in-None-clause-here : goal.returns-in_err-one-in-None-clause-here
returns-in_err-one-in-None-clause-here c =
    let absent : get eqb c.args.slots.now c.args.id ≡ None = search rules in
    let same : get eqb c.get_mut.follows.lender-at-none c.args.id ≡ get eqb c.args.slots.now c.args.id = search rules in
    refused_add (pair_of c.args.key.now c.args.value.now) _ _ _ c.from_residual.result c.from_residual.ensures.1 (vacant_adds c.args.key.now c.args.value.now _ absent) (ap pairs_at same)

pub returns-in_err-insert-in-None-clause-here : goal.returns-in_err-insert-in-None-clause-here
returns-in_err-insert-in-None-clause-here c =
    let absent : get eqb c.args.slots.now c.args.id ≡ None = search rules in
    let same : get eqb c.insert-in-None.new.self c.args.id ≡ get eqb c.args.slots.now c.args.id = search rules in
    refused_add (pair_of c.args.key.now c.args.value.now) _ _ _ c.from_residual-in_err-insert-in-None.result c.from_residual-in_err-insert-in-None.ensures.1 (vacant_adds c.args.key.now c.args.value.now _ absent) (ap pairs_at same)

pub returns-in_ok-insert-in-None-clause-here : goal.returns-in_ok-insert-in-None-clause-here
unfolding insert_pair
returns-in_ok-insert-in-None-clause-here c =
    let absent : get eqb c.args.slots.now c.args.id ≡ None = search rules in
    let due = vacant_adds c.args.key.now c.args.value.now _ absent in (
      due,
      ap pairs_at c.in_ok-insert-in-None.ensures.updates.1 ∙ c.in_ok-one-in-None.ensures ∙ ap (λ o. insert_pair (pair_of c.args.key.now c.args.value.now) (pairs_at o)) (sym absent)
          ∙ sym (after_reply (Insert c.args.key.now c.args.value.now) reply.Added _ due),
    )
