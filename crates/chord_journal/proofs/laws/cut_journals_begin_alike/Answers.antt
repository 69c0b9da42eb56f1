use Rattle.chord_journal.proofs.Readings.{cut_read}
use Rattle.chord_journal.proofs.laws.cut_journals_begin_alike.Goals as goal

pub returns : goal.returns
returns c = cut_read
