use Rattle.chord_resp.proofs.InlineLaws.{zero_refused}
use Rattle.chord_resp.proofs.laws.lines_with_a_byte_0_are_refused.Goals as goal

pub returns : goal.returns
returns c = zero_refused
