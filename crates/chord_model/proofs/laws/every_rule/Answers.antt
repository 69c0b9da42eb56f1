use Rattle.chord_model.proofs.EveryRule.{ran}
use Rattle.chord_model.proofs.laws.every_rule.Goals as goal

pub returns : goal.returns
returns c = ran
