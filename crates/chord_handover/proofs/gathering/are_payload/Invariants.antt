use Rattle.chord_handover.specs.Gather.{pairs_upto}
use Rattle.chord_handover.specs.Handover.{gathered_parts}
use Rattle.chord_handover.specs.Passed.{HasPassed}
use Rattle.chord_handover.proofs.gathering.are_payload.Given as goal

abbrev pub invariant-loop-i : goal.invariant-loop-i
invariant-loop-i l = HasPassed l.segment.segment (pairs_upto l.i (gathered_parts l.part l.buffered)) (record { last = l.run.0; count = (l.run.1).0 })
