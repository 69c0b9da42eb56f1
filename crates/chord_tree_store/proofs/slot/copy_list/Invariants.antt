use Rattle.std.proofs.Common.{◌≡◌, ◌++◌, take}
use Rattle.chord_tree_store.proofs.slot.copy_list.Given as goal

abbrev pub invariant-loop-pair : goal.invariant-loop-pair
invariant-loop-pair l = l.copies.items ≡ l.initial.copies.items ++ take l.pair-index l.pairs
