use Rattle.chord_ring.specs.declared.ring_step.RingStep.TheVariants as step
use Rattle.chord_ring.specs.declared.ring_step.RingDid.TheVariants as ring
use Rattle.chord_world.proofs.world.World.stabilise.Goals as goal

pub relink-requires-clause-moved : goal.relink-requires-clause-moved
relink-requires-clause-moved g c = (step.Stabilise c.args.node c.args.head, c.in_ok-did.ensures.done)

pub returns-clause-answer : goal.returns-clause-answer
returns-clause-answer g c = record { did = ring.Candidate c.in_ok-did.did.1; told = c.outcome_of_candidate.ensures; is = c.in_ok-did.ensures.candidate; moves = c.relink.ensures.moves _ c.in_ok-did.ensures.done }
