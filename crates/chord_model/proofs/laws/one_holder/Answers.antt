use Rattle.chord_model.proofs.Merely.{one_holder_merely}
use Rattle.chord_model.proofs.laws.one_holder.Goals as goal

pub returns : goal.returns
returns c = λ world x reached some x_in. one_holder_merely world reached some x x_in
