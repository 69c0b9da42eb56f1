use Rattle.chord_ring.proofs.Rows.{number_listed}
use Rattle.chord_world.proofs.members.WorldMemberReader.listed.Goals as goal

pub returns : goal.returns
returns g c = λ number member. number_listed _ _ number c.count.ensures member
