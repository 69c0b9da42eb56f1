use Rattle.chord_resp.proofs.TableLaws.{many_refused}
use Rattle.chord_resp.proofs.laws.long_commands_are_refused.Goals as goal

pub returns : goal.returns
returns c = many_refused
