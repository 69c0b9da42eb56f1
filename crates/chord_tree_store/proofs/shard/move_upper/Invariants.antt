use Rattle.std.proofs.Common.{◌≡◌, ◌≤◌, ◌+◌, leb, eqb, length, take}
use Rattle.std.specs.List.{filter}
use Rattle.std.specs.HashMap.{get, keys, spare}
use Rattle.chord_tree_store.proofs.Moving.{IsMoved}
use Rattle.chord_tree_store.proofs.shard.move_upper.Given as goal

abbrev pub invariant-loop-id : goal.invariant-loop-id
invariant-loop-id l =
    (l.id-items ≡ filter (leb l.half) (keys l.fn.slots))
    × IsMoved (get eqb l.fn.slots) (get eqb l.slots) (get eqb l.upper) l.half (take l.id-index l.id-items)
    × (length l.id-items ≤ l.id-index + spare l.upper)
