use Rattle.std.proofs.Common.{◌≡◌, true, ap, sym, ◌∙◌}
use Rattle.std.specs.Prelude.{codes}
use Rattle.chord_journal.specs.Journal.{Buffered}
use Rattle.chord_journal.proofs.Spelling.{spelled_insert, spelled_remove, grown}
use Rattle.chord_journal.proofs.buffer.JournalBuffer.append.Goals as goal

pub returns-in-Insert-Added-clause-bytes : goal.returns-in-Insert-Added-clause-bytes
returns-in-Insert-Added-clause-bytes c =
    let on : c.args.self.now.on ≡ true = sym (ap (λ (s : Buffered). s.on) c.self.view_is) ∙ c.if-not-self.false in
    rw (on, c.in-Insert-Added.is-0, c.in-Insert-Added.is-1, spelled_insert)
    (grown (codes "*3\r\n$4\r\nSADD\r\n") _ _ _ _ _ _ _ c.put_command.ensures.bytes (ap (λ (s : Buffered). s.bytes) c.self.view_is) c.as_slice.ensures c.as_slice-in-Insert-Added.ensures)

pub returns-in-Remove-Removed-clause-bytes : goal.returns-in-Remove-Removed-clause-bytes
returns-in-Remove-Removed-clause-bytes c =
    let on : c.args.self.now.on ≡ true = sym (ap (λ (s : Buffered). s.on) c.self.view_is) ∙ c.if-not-self.false in
    rw (on, c.in-Remove-Removed.is-0, c.in-Remove-Removed.is-1, spelled_remove)
    (grown (codes "*3\r\n$4\r\nSREM\r\n") _ _ _ _ _ _ _ c.put_command-in-Remove-Removed.ensures.bytes (ap (λ (s : Buffered). s.bytes) c.self.view_is) c.as_slice-in-Remove-Removed.ensures c.as_slice-in-Remove-Removed-2.ensures)
