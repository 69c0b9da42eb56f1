use Rattle.std.proofs.Common.{◌+◌, ◌-◌, length}
use Rattle.chord_caller.specs.Caller.{floor_of}
use Rattle.chord_app_serve.proofs.Settling.{Settling}
use Rattle.chord_app_serve.proofs.serving.asker.settle.Given as goal

abbrev pub invariant-loop-number : goal.invariant-loop-number
invariant-loop-number g l = Settling (l.before + l.floor) l.initial.caller l.caller

abbrev pub decreases-loop-number : goal.decreases-loop-number
decreases-loop-number g l = length l.caller.caller.submitted - floor_of l.caller.caller
