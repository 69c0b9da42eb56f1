use Rattle.std.proofs.Common.{◌≡◌, false}
use Rattle.chord_journal_file.specs.Reading.{Passes}
use Rattle.chord_journal_file.proofs.reader.JournalReader.next_command.Given as goal

abbrev pub invariant-loop : goal.invariant-loop
invariant-loop l = (l.self.is_long ≡ false) × Passes l.fn.self l.self
