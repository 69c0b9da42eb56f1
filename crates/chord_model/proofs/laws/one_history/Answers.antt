use Rattle.chord_model.proofs.Merely.{history_merely}
use Rattle.chord_model.proofs.laws.one_history.Goals as goal

pub returns : goal.returns
returns c = λ world reached. history_merely world reached
