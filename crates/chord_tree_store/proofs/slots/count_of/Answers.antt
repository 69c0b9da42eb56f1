use Rattle.std.proofs.Common.{sym, ap, ◌∙◌, List, ℕ, length}
use Rattle.std.specs.Option.{option_copied}
use Rattle.chord_map.specs.Map.{values_at}
use Rattle.chord_tree_store.specs.Slot.{pairs_at}
use Rattle.chord_tree_store.proofs.Placing.{values-in}
use Rattle.chord_tree_store.proofs.slots.count_of.Goals as goal

pub returns-in-Some : goal.returns-in-Some
returns-in-Some c =
    let held = sym c.get.ensures ∙ ap option_copied c.in-Some.is in
    let found = values-in c.args.shelf.now c.requires.placed c.args.key.now c.args.id c.requires.id ∙ ap (λ o. values_at c.args.key.now (pairs_at o)) held in
    c.count_under.ensures ∙ ap (λ (vs : List (List ℕ)). length vs) (sym found)

pub returns-in-None : goal.returns-in-None
returns-in-None c =
    let held = sym c.get.ensures ∙ ap option_copied c.in-None.is in
    let found = values-in c.args.shelf.now c.requires.placed c.args.key.now c.args.id c.requires.id ∙ ap (λ o. values_at c.args.key.now (pairs_at o)) held in
    ap (λ (vs : List (List ℕ)). length vs) (sym found)
