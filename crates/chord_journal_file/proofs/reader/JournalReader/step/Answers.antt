use Rattle.chord_journal_file.specs.contracts.read_fault.FaultKind.{the_row}
use Rattle.chord_journal_file.proofs.Readings.{step_none, step_some}
use Rattle.chord_journal_file.proofs.reader.JournalReader.step.Goals as goal

pub returns-in_ok-taken-in-Ok-Some : goal.returns-in_ok-taken-in-Ok-Some
returns-in_ok-taken-in-Ok-Some c =
    step_some the_row.Denot c.args.self.now c.self.inside.commands c.next.new.self c.self.inside.window _ c.in-Ok-Some.words c.in_ok-taken-in-Ok-Some.taken
    c.self.view_is c.requires (rw c.in-Ok-Some.field-0-is at c.in-Ok-Some.ensures).0 c.in_ok-taken-in-Ok-Some.ensures

pub returns-in-Ok-None : goal.returns-in-Ok-None
returns-in-Ok-None c =
    step_none c.args.self.now c.read_on.new.self c.self.inside.commands c.next.new.self c.self.inside.window _ c.read_on.result
    c.self.view_is (rw c.in-Ok-None.field-0-is at c.in-Ok-None.ensures).0 c.read_on.ensures
