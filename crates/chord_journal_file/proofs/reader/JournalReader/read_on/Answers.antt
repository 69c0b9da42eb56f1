use Rattle.std.proofs.Common.{sym, ◌∙◌}
use Rattle.chord_journal_file.proofs.Readings.{meets_here}
use Rattle.chord_journal_file.proofs.reader.JournalReader.read_on.Goals as goal

pub returns-in-Some-2 : goal.returns-in-Some-2
returns-in-Some-2 c =
    meets_here _ _ _ _ _ _ _ _ c.self.view_is (sym c.is_between.ensures ∙ c.if-is_between.true) c.as_slice-2.ensures
    (rw c.in-Some-2.is at c.in_ok-count.ensures)
