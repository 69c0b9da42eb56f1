use Rattle.chord_segment.proofs.Bare.{AreSame, parted_upto}
use Rattle.chord_segment.proofs.callers.Callers.keep_inside.Given as goal

abbrev pub invariant-loop-i : goal.invariant-loop-i
invariant-loop-i l = AreSame l.self-inside.entries.items (parted_upto l.span l.i l.initial.self-inside.entries.items)
