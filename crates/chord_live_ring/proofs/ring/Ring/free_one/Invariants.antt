use Rattle.std.proofs.Common.{◌≡◌}
use Rattle.chord_live_ring.proofs.ring.Ring.free_one.Given as goal

-- no slot so far was freed
abbrev pub invariant-loop-index : goal.invariant-loop-index
invariant-loop-index g l = l.numbers ≡ l.initial.numbers
