use Rattle.std.proofs.Common.{◌≤◌, ◌-◌, length, drop}
use Rattle.chord_segment.specs.Callers.{IsAlike}
use Rattle.chord_segment.proofs.callers.Callers.equals.Given as goal

abbrev pub invariant-loop-i : goal.invariant-loop-i
invariant-loop-i l = record {
  first : l.i ≤ length l.self;
  second : l.j ≤ length l.other;
  rest : IsAlike l.self l.other → IsAlike (drop l.i l.self) (drop l.j l.other);
  whole : IsAlike (drop l.i l.self) (drop l.j l.other) → IsAlike l.self l.other;
}

abbrev pub decreases-loop-i : goal.decreases-loop-i
decreases-loop-i l = length l.self - l.i
