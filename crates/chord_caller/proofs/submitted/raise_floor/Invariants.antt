use Rattle.std.proofs.Common.{◌-◌, ◌≤◌, length}
use Rattle.chord_caller.specs.Submitted.{AreSettled}
use Rattle.chord_caller.proofs.submitted.raise_floor.Given as goal

abbrev pub invariant-loop-floor : goal.invariant-loop-floor
invariant-loop-floor l = record { within : l.floor ≤ length l.submitted; settled : AreSettled l.floor l.submitted }

abbrev pub decreases-loop-floor : goal.decreases-loop-floor
decreases-loop-floor l = length l.submitted - l.floor
