use Rattle.chord_model.proofs.TwoParts.{ran}
use Rattle.chord_model.proofs.laws.two_parts.Goals as goal

pub returns : goal.returns
returns c = ran
