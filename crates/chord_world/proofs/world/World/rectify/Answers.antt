use Rattle.std.proofs.Common.{refl}
use Rattle.chord_ring.specs.declared.ring_step.RingStep.TheVariants as step
use Rattle.chord_ring.specs.declared.ring_step.RingDid.TheVariants as ring
use Rattle.chord_world.proofs.world.World.rectify.Goals as goal

pub relink-requires-clause-moved : goal.relink-requires-clause-moved
relink-requires-clause-moved g c = (step.Rectify c.args.node c.args.notifier, c.in_ok-did.ensures.done)

pub returns-clause-answer : goal.returns-clause-answer
returns-clause-answer g c = record { did = ring.Done; told = refl; is = tt; moves = c.relink.ensures.moves _ c.in_ok-did.ensures.done }
