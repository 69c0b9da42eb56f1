use Rattle.chord_model.proofs.Example.{ran}
use Rattle.chord_model.proofs.laws.some_run.Goals as goal

pub returns : goal.returns
returns c = ran
