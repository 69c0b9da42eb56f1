use Rattle.chord_resp.proofs.SpellingLaws.{long_array_read}
use Rattle.chord_resp.proofs.laws.long_arrays_are_read.Goals as goal

pub returns : goal.returns
returns c = long_array_read
