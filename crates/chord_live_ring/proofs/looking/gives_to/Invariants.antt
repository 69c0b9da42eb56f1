use Rattle.chord_live_steps.specs.Pieces.{NoneGoesTo}
use Rattle.chord_live_ring.proofs.looking.gives_to.Given as goal

-- the items before this index do not go there
abbrev pub invariant-loop-place : goal.invariant-loop-place
invariant-loop-place g l = NoneGoesTo l.to l.node.outbox l.place
