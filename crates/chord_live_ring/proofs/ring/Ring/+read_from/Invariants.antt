use Rattle.std.proofs.Common.{◌-◌}
use Rattle.chord_live_ring.proofs.ring.Ring.+read_from.Given as goal

-- the slots that are left
abbrev pub decreases-read_from : goal.decreases-read_from
decreases-read_from g l = g.J.Naming.name.slots - l.at
