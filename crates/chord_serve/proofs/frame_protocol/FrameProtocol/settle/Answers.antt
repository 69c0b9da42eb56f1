use Rattle.std.proofs.Common.{[], sym, ◌∙◌}
use Rattle.std.proofs.lemmas.List.{append-nil}
use Rattle.chord_serve.proofs.Framings.{told_says, untold_stops}
use Rattle.chord_serve.specs.Output.{frame_of}
use Rattle.chord_serve.proofs.frame_protocol.FrameProtocol.settle.Goals as goal

pub returns-in-Ok-clause-next : goal.returns-in-Ok-clause-next
returns-in-Ok-clause-next g c before asked =
    (frame_of c.args.number c.args.answer, told_says g.A.Asker.answers before c.args.self.now c.args.number c.args.answer c.tell.new.self asked c.in-Ok.ensures.answered c.in-Ok.ensures.told, c.requires.idle, c.in-Ok.ensures.due)

pub returns-in-Err-clause-next : goal.returns-in-Err-clause-next
returns-in-Err-clause-next g c before asked =
    ([], λ _. untold_stops g.A.Asker.answers before c.args.self.now c.args.number c.args.answer c.tell.new.self.asker asked c.in-Err.ensures.asker, c.in-Err.ensures.due ∙ sym (append-nil c.args.due.now))
