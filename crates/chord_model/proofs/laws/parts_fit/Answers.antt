use Rattle.chord_model.proofs.Merely.{fits_merely}
use Rattle.chord_model.proofs.laws.parts_fit.Goals as goal

pub returns : goal.returns
returns c = λ world part node reached was at next. fits_merely world reached part node was at next
