use Rattle.std.proofs.Common.{refl}
use Rattle.chord_ring.specs.declared.ring_step.RingStep.TheVariants as step
use Rattle.chord_ring.specs.declared.ring_step.RingDid.TheVariants as ring
use Rattle.chord_world.proofs.world.World.drop_dead.Goals as goal

pub relink-requires-clause-moved : goal.relink-requires-clause-moved
relink-requires-clause-moved g c = (step.DropDead c.args.node, c.in_ok-links.ensures.done)

pub returns-clause-answer : goal.returns-clause-answer
returns-clause-answer g c = record { did = ring.Done; told = refl; is = tt; moves = c.relink.ensures.moves _ c.in_ok-links.ensures.done }
