use Rattle.std.proofs.Common.{subst}
use Rattle.chord_ring.proofs.Walking.{one_ring}
use Rattle.chord_world.specs.Runs.{StandsOnOneRing}
use Rattle.chord_world.proofs.world.World.stands_on_one_ring.Goals as goal

pub returns : goal.returns
returns g c = subst StandsOnOneRing c.self.view_is (λ some. let sound = c.self.invariant.ring some in (sound.safe, one_ring _ sound))
