use Rattle.chord_live_ring.specs.Sights.{NoneGives}
use Rattle.chord_live_ring.proofs.looking.handover_of.Given as goal

-- the items before this index do not hand it over
abbrev pub invariant-loop-place : goal.invariant-loop-place
invariant-loop-place g l = NoneGives l.id.number l.node.outbox l.place
