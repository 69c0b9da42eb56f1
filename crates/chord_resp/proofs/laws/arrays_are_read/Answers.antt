use Rattle.chord_resp.proofs.SpellingLaws.{array_read}
use Rattle.chord_resp.proofs.laws.arrays_are_read.Goals as goal

pub returns : goal.returns
returns c = array_read
