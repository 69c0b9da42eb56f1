-- Each step of the upkeep stores the links that the step gives.
use Rattle.chord_ring.specs.declared.ring_step.RingStep.TheVariants.{Stabilise, Candidate, DropDead, Rectify}
use Rattle.chord_ring.proofs.ring_core.RingCore.step.Goals as goal

pub store-requires-clause-step : goal.store-requires-clause-step
store-requires-clause-step c = (Stabilise c.in-Stabilise.number c.in-Stabilise.head, c.in_ok-did-in-Stabilise.ensures.done)

pub store-requires-in-Candidate-clause-step : goal.store-requires-in-Candidate-clause-step
store-requires-in-Candidate-clause-step c = (Candidate c.in-Candidate.number c.in-Candidate.peer, c.in_ok-links-in-Candidate.ensures.done)

pub store-requires-in-DropDead-clause-step : goal.store-requires-in-DropDead-clause-step
store-requires-in-DropDead-clause-step c = (DropDead c.in-DropDead.number, c.in_ok-links-in-DropDead.ensures.done)

pub store-requires-in-Rectify-clause-step : goal.store-requires-in-Rectify-clause-step
store-requires-in-Rectify-clause-step c = (Rectify c.in-Rectify.number c.in-Rectify.notifier, c.in_ok-did-in-Rectify.ensures.done)
