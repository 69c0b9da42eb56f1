use Rattle.chord_journal.proofs.Readings.{journal_read}
use Rattle.chord_journal.proofs.Commands.{all_called}
use Rattle.chord_journal.proofs.laws.journals_are_read.Goals as goal

pub returns-clause-read : goal.returns-clause-read
returns-clause-read c = journal_read

pub returns-clause-called : goal.returns-clause-called
returns-clause-called c = all_called
