use Rattle.std.proofs.Common.{◌≡◌, drop}
use Rattle.chord_segment.specs.Callers.{marks_in, calls_in}
use Rattle.chord_segment.proofs.callers.Callers.next_shown.Given as goal

abbrev pub invariant-loop-i : goal.invariant-loop-i
invariant-loop-i l = record {
  marks : marks_in (drop l.from l.self) ≡ marks_in (drop l.i l.self);
  calls : calls_in (drop l.from l.self) ≡ calls_in (drop l.i l.self);
}
