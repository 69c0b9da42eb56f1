use Rattle.std.proofs.Common.{take}
use Rattle.chord_segment.proofs.Bare.{AreSame}
use Rattle.chord_segment.proofs.callers.Callers.try_copy.Given as goal

abbrev pub invariant-loop-own : goal.invariant-loop-own
invariant-loop-own l = AreSame l.entries.items (take l.own-index l.own-items)
