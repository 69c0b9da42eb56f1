use Rattle.std.proofs.Common.{◌≡◌, ◌++◌, []}
use Rattle.chord_tree_store.specs.Slots.{entries_inside, pairs_of_slots}
use Rattle.chord_tree_store.proofs.shard.copy_inside.Given as goal

abbrev pub invariant-loop-id : goal.invariant-loop-id
invariant-loop-id l = record {
  copied : l.copies.items ++ pairs_of_slots (entries_inside l.span l.id-iterator) ≡ l.initial.copies.items ++ pairs_of_slots (entries_inside l.span l.slots.entries);
  none : pairs_of_slots (entries_inside l.span l.slots.entries) ≡ [] → pairs_of_slots (entries_inside l.span l.id-iterator) ≡ [];
}
