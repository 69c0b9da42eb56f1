use Rattle.chord_resp.proofs.SpellingLaws.{array_cut}
use Rattle.chord_resp.proofs.laws.cut_arrays_are_no_commands.Goals as goal

pub returns : goal.returns
returns c = array_cut
