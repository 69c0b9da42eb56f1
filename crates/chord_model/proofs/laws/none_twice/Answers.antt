use Rattle.chord_model.proofs.Merely.{none_twice_merely}
use Rattle.chord_model.proofs.laws.none_twice.Goals as goal

pub returns : goal.returns
returns c = λ world number node reached here. none_twice_merely world reached number node here
