use Rattle.std.proofs.Common.{◌≡◌, ℕ, None, cond, take}
use Rattle.std.specs.FinMap.{get}
use Rattle.chord_tree_store.specs.Shelf.{has_id}
use Rattle.chord_tree_store.proofs.slots.drop_keys.Given as goal

abbrev pub invariant-loop-pair : goal.invariant-loop-pair
invariant-loop-pair l = (id : ℕ) → get l.shelf id ≡ cond (has_id id (take l.pair-index l.pairs)) None (get l.initial.shelf id)
