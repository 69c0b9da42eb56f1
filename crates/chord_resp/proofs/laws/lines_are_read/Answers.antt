use Rattle.chord_resp.proofs.InlineLaws.{line_read}
use Rattle.chord_resp.proofs.laws.lines_are_read.Goals as goal

pub returns : goal.returns
returns c = line_read
