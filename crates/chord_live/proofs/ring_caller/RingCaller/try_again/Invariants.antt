use Rattle.std.proofs.Common.{Err}
use Rattle.chord_live_steps.specs.Ending.{Ended}
use Rattle.chord_live_types.specs.declared.caller.WaitFault.TheVariants as wait
use Rattle.chord_live.proofs.ring_caller.RingCaller.try_again.Given as goal

-- the turns so far are one wait without an answer
abbrev pub invariant-loop : goal.invariant-loop
invariant-loop g l = Ended g.C.AskingCore.ends l.number l.initial.self (Err wait.NoAnswer) l.self
