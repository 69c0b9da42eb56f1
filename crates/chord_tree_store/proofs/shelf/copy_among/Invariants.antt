use Rattle.std.proofs.Common.{◌≡◌, eqb, take}
use Rattle.std.specs.List.{IsDistinct}
use Rattle.std.specs.Map.{keys_of}
use Rattle.chord_tree_store.specs.Shelf.{entries_of}
use Rattle.chord_tree_store.specs.Slots.{entries_inside, pairs_of_slots}
use Rattle.chord_tree_store.proofs.shelf.copy_among.Given as goal

abbrev pub invariant-loop-place : goal.invariant-loop-place
invariant-loop-place l = record {
  copied : l.copies.items ≡ pairs_of_slots (entries_inside l.span (entries_of (take l.place l.shards)));
  once : IsDistinct eqb (keys_of (entries_of (take l.place l.shards)));
}
