use Rattle.chord_live_steps.specs.Adjoining.{NoneGoesOn}
use Rattle.chord_live_steps.proofs.adjoining.find_next.Given as goal

-- none of the segments before this index goes on
abbrev pub invariant-loop-other : goal.invariant-loop-other
invariant-loop-other g l = NoneGoesOn l.own l.place l.end l.node.held l.other
