use Rattle.chord_journal.proofs.Loads.{merged_map}
use Rattle.chord_journal.proofs.laws.keys_may_be_mixed.Goals as goal

pub returns : goal.returns
returns c = merged_map
