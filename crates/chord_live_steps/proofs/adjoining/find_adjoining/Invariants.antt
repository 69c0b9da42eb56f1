use Rattle.chord_live_steps.specs.Adjoining.{NoneAdjoin}
use Rattle.chord_live_steps.proofs.adjoining.find_adjoining.Given as goal

-- none of the segments before this index adjoins another
abbrev pub invariant-loop-place : goal.invariant-loop-place
invariant-loop-place g l = NoneAdjoin l.own l.node.held l.place
