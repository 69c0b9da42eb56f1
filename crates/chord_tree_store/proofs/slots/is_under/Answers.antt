use Rattle.std.proofs.Common.{sym, ap, ◌∙◌}
use Rattle.std.specs.Option.{option_copied}
use Rattle.chord_map.specs.Map.{has_pair}
use Rattle.chord_map.proofs.MapLemmas.{pair_of}
use Rattle.chord_tree_store.specs.Slot.{pairs_at}
use Rattle.chord_tree_store.proofs.Placing.{had}
use Rattle.chord_tree_store.proofs.slots.is_under.Goals as goal

pub returns-in-Some : goal.returns-in-Some
returns-in-Some c =
    let held = sym c.get.ensures ∙ ap option_copied c.in-Some.is in
    c.contains.ensures
    ∙ sym (had c.args.shelf.now c.requires.placed c.args.key.now c.args.value.now c.args.id c.requires.id
    ∙ ap (λ o. has_pair (pair_of c.args.key.now c.args.value.now) (pairs_at o)) held)

pub returns-in-None : goal.returns-in-None
returns-in-None c =
    let held = sym c.get.ensures ∙ ap option_copied c.in-None.is in
    sym (had c.args.shelf.now c.requires.placed c.args.key.now c.args.value.now c.args.id c.requires.id
    ∙ ap (λ o. has_pair (pair_of c.args.key.now c.args.value.now) (pairs_at o)) held)
