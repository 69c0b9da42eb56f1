use Rattle.chord_model.proofs.Merely.{seen_first_merely}
use Rattle.chord_model.proofs.laws.seen_first.Goals as goal

pub returns : goal.returns
returns c = λ earlier later reached run. seen_first_merely earlier later reached run
