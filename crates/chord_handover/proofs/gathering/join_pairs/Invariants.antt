use Rattle.std.proofs.Common.{◌≡◌}
use Rattle.chord_handover.specs.Gather.{pairs_upto}
use Rattle.chord_handover.specs.Handover.{gathered_parts}
use Rattle.chord_handover.proofs.gathering.join_pairs.Given as goal

abbrev pub invariant-loop-i : goal.invariant-loop-i
invariant-loop-i l = l.pairs.items ≡ pairs_upto l.i (gathered_parts l.part l.buffered)
