use Rattle.std.proofs.Common.{◌≡◌, Some, None, refl, sym, ◌∙◌}
use Rattle.chord_resp.specs.Reading.{reading_of}
use Rattle.chord_resp_serve.proofs.Steps.{more_nothing}
use Rattle.chord_resp_serve.proofs.Waits.{asked_again, begun_asked, fresh}
use Rattle.chord_resp_serve.proofs.command_protocol.CommandProtocolProtocol.answer_next.Goals as goal

pub returns-in-Ok-None-clause-next : goal.returns-in-Ok-None-clause-next
returns-in-Ok-None-clause-next g c before at =
    let it = c.args.self.now in
    let none : it.waiting ≡ None = sym c.take.ensures.value ∙ c.in_default.is in
    let taken = rw c.in-Ok-None.field-0-is at c.in-Ok-None.ensures in
    rw (fresh g.A.Asker.answers g.I.Informs.tells before it none at) (taken.1, (sym taken.0 ∙ sym (more_nothing (reading_of it.commands)), refl, refl, refl), c.take.ensures.after, refl)

pub returns-in-Some-clause-next : goal.returns-in-Some-clause-next
returns-in-Some-clause-next g c before at =
    let it = c.args.self.now in
    let some : it.waiting ≡ Some c.in-Some.waiting = sym c.take.ensures.value ∙ c.in-Some.is in
    let p = begun_asked g.A.Asker.answers g.I.Informs.tells before it c.in-Some.waiting some at in
    c.settle.ensures.next before (asked_again g.A.Asker.answers g.I.Informs.tells before it _ c.in-Some.waiting c.try_again-answer.result refl refl refl p c.try_again-answer.ensures.again)
