use Rattle.std.proofs.Common.{ℕ}
use Rattle.chord_tree_store.specs.Shelf.{has_id}
use Rattle.chord_tree_store.specs.Slots.{pairs_in}
use Rattle.chord_tree_store.proofs.Emptied.{dropped_placed, dropped_pairs, ids_inside}
use Rattle.chord_tree_store.proofs.slots.drop_copied.Goals as goal

pub returns-clause-placed : goal.returns-clause-placed
returns-clause-placed c = dropped_placed c.args.shelf.now c.drop_keys.new.shelf c.requires.placed (λ (id : ℕ). has_id id c.args.copies.now) c.drop_keys.ensures

pub returns-clause-change : goal.returns-clause-change
returns-clause-change c =
    dropped_pairs c.args.shelf.now c.drop_keys.new.shelf c.requires.placed (λ (id : ℕ). has_id id c.args.copies.now) c.drop_keys.ensures c.args._span.now
    (ids_inside c.args._span.now (pairs_in c.args.shelf.now) c.args.copies.now c.requires.copies)
