use Rattle.chord_resp.proofs.InlineLaws.{inline_read}
use Rattle.chord_resp.proofs.laws.inline_commands_are_read.Goals as goal

pub returns : goal.returns
returns c = inline_read
