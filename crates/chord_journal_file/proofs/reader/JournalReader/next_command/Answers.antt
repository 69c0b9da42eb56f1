use Rattle.chord_journal_file.proofs.Readings.{found_on}
use Rattle.chord_journal_file.proofs.reader.JournalReader.next_command.Goals as goal

pub returns-in-Found : goal.returns-in-Found
returns-in-Found c =
    found_on c.args.self.now c.loop.self c.step.new.self c.in-Found.found c.loop.invariant.1 (rw c.in-Found.is at c.in_ok-found.ensures)
