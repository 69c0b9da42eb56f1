use Rattle.chord_journal.proofs.Readings.{journal_grows}
use Rattle.chord_journal.proofs.laws.journals_grow.Goals as goal

pub returns : goal.returns
returns c = journal_grows
