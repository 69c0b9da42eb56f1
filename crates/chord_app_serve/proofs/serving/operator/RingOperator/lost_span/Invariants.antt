use Rattle.std.specs.Prelude.{IfSome}
use Rattle.chord_app_serve.specs.ReadPairs.{IsLost}
use Rattle.chord_app_serve.proofs.serving.operator.RingOperator.lost_span.Given as goal

-- the handover that was found so far is lost
abbrev pub invariant-loop-slot : goal.invariant-loop-slot
invariant-loop-slot g l = IfSome l.lost (IsLost l.first)
