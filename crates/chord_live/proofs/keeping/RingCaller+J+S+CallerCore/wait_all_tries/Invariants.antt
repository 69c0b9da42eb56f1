use Rattle.std.proofs.Common.{Err}
use Rattle.chord_live_steps.specs.Ending.{Ended, WaitIs}
use Rattle.chord_live_types.specs.declared.caller.WaitFault.TheVariants as wait
use Rattle.chord_live.proofs.keeping.RingCaller+J+S+CallerCore.wait_all_tries.Given as goal

-- the turns so far are one wait without an answer
abbrev pub invariant-loop : goal.invariant-loop
invariant-loop g l = Ended WaitIs l.number l.initial.self (Err wait.NoAnswer) l.self
