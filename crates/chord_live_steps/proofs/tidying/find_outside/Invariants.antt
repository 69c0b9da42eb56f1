use Rattle.chord_live_steps.specs.Tidy.{AreInside}
use Rattle.chord_live_steps.proofs.tidying.find_outside.Given as goal

-- the segments before this index are inside
abbrev pub invariant-loop-place : goal.invariant-loop-place
invariant-loop-place g l = AreInside l.own l.node.held l.place
