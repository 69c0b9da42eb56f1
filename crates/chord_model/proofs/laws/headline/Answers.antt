use Rattle.chord_model.proofs.Merely.{headline_merely}
use Rattle.chord_model.proofs.laws.headline.Goals as goal

pub returns : goal.returns
returns c = headline_merely
