use Rattle.std.proofs.Common.{◌≡◌, ◌+◌, length}
use Rattle.chord_tree_store.specs.Slots.{entries_inside, pairs_of_slots}
use Rattle.chord_tree_store.proofs.shard.count_inside.Given as goal

abbrev pub invariant-loop-id : goal.invariant-loop-id
invariant-loop-id l =
    l.total + length (pairs_of_slots (entries_inside l.span l.id-iterator))
    ≡ length (pairs_of_slots (entries_inside l.span l.slots.entries))
