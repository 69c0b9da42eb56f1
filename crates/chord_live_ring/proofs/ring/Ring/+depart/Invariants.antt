use Rattle.std.proofs.Common.{◌-◌, ◌*◌, ◌+◌}
use Rattle.chord_live_ring.proofs.ring.Ring.+depart.Given as goal

-- the slots that are left, and the calls at this one
abbrev pub decreases-depart_from : goal.decreases-depart_from
decreases-depart_from g l = 3 * (g.J.Naming.name.slots - l.at) + 2

abbrev pub decreases-lend_in : goal.decreases-lend_in
decreases-lend_in g l = 3 * (g.J.Naming.name.slots - l.at) + 1

abbrev pub decreases-lend : goal.decreases-lend
decreases-lend g l = 3 * (g.J.Naming.name.slots - l.at) + 0
