use Rattle.std.proofs.Common.{◌≡◌, false, take}
use Rattle.chord_segment.specs.Segment.{stands_twice}
use Rattle.chord_segment.specs.Callers.{calls_in}
use Rattle.chord_segment.proofs.callers.Callers.any_twice.Given as goal

abbrev pub invariant-loop-own : goal.invariant-loop-own
invariant-loop-own l = stands_twice (calls_in l.self) (calls_in (take l.own-index l.own-items)) ≡ false
