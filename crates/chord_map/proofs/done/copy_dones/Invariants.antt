use Rattle.std.proofs.Common.{◌≡◌, take}
use Rattle.chord_map.proofs.done.copy_dones.Given as goal

abbrev pub invariant-loop-done : goal.invariant-loop-done
invariant-loop-done l = l.copies.items ≡ take l.done-index l.dones
