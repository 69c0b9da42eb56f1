use Rattle.std.proofs.Common.{◌≡◌, ◌++◌, take}
use Rattle.chord_tree_store.specs.Slot.{pairs_under}
use Rattle.chord_tree_store.proofs.slot.copy_set.Given as goal

abbrev pub invariant-loop-value : goal.invariant-loop-value
invariant-loop-value l = l.copies.items ≡ l.initial.copies.items ++ pairs_under l.key (take l.value-index l.values)
