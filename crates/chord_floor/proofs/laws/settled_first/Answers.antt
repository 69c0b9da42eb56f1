use Rattle.chord_floor.proofs.Merely.{settled_merely}
use Rattle.chord_floor.proofs.laws.settled_first.Goals as goal

pub returns : goal.returns
returns c = λ earlier later reached run. settled_merely c.one_holder.ensures earlier later reached run
