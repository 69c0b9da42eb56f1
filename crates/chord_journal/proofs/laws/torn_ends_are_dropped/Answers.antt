use Rattle.chord_journal.proofs.Readings.{torn_read}
use Rattle.chord_journal.proofs.laws.torn_ends_are_dropped.Goals as goal

pub returns : goal.returns
returns c = torn_read
