use Rattle.chord_ring.proofs.Rows.{number_listed}
use Rattle.chord_ring.proofs.ring_core.RingCoreMemberReader.listed.Goals as goal

pub returns : goal.returns
returns c = λ number member. number_listed _ _ number c.count.ensures member
