use Rattle.std.proofs.Common.{[]}
use Rattle.chord_journal.proofs.Loads.{same_map}
use Rattle.chord_journal.proofs.laws.changes_make_the_map.Goals as goal

pub returns : goal.returns
returns c = same_map []
