use Rattle.std.proofs.Common.{◌-◌, length}
use Rattle.chord_caller.specs.Caller.{floor_of}
use Rattle.chord_live_steps.specs.Asking.{GaveUpSome}
use Rattle.chord_live_steps.proofs.seated_core.SeatedCore.give_up_all.Given as goal

abbrev pub invariant-loop-number : goal.invariant-loop-number
invariant-loop-number g l = GaveUpSome l.initial.self l.self

abbrev pub decreases-loop-number : goal.decreases-loop-number
decreases-loop-number g l = length l.self.caller.submitted - floor_of l.self.caller
