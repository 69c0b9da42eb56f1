use Rattle.std.proofs.Common.{Ok, sym, ap, subst}
use Rattle.chord_caller.specs.Answers.{SubmitIs}
use Rattle.chord_caller.specs.Caller.{Caller, with_request}
use Rattle.chord_live_steps.proofs.Submitting.{call_of_submission, submission}
use Rattle.chord_live_steps.specs.Begun.{IsCallOf}
use Rattle.chord_table.specs.Views.{CallerSight}
use Rattle.chord_live_steps.proofs.seated_core.SeatedCore.submit.Goals as goal

pub submit-envelope-requires : goal.submit-envelope-requires
submit-envelope-requires g c =
    let caller = c.self.inside.seat.caller in
    record { event = (submission g.C.AskingCore.is_core_of c.args.request c.in-Ok.ask c.submit.new.self caller (c.in-Ok.ensures.answer caller c.self.invariant)).step }

pub returns-clause-envelope : goal.returns-clause-envelope
returns-clause-envelope g c =
    let caller = λ (s : CallerSight). s.caller in
    let ask = c.in-Ok.ask in
    let sent = submission g.C.AskingCore.is_core_of c.args.request ask c.submit.new.self c.self.inside.seat.caller (c.in-Ok.ensures.answer c.self.inside.seat.caller c.self.invariant) in (
      ask,
      subst (λ (old : Caller). SubmitIs c.args.request old (Ok ask) (c.submit-envelope.new.self).caller) (ap caller c.self.view_is)
          (subst (λ (new : Caller). SubmitIs c.args.request c.self.inside.seat.caller (Ok ask) new) (sym (ap caller c.submit-envelope.ensures.seat)) sent.answer),
      c.submit-envelope.ensures.envelope,
    )

pub returns-clause-call : goal.returns-clause-call
returns-clause-call g c =
    let caller = c.self.inside.seat.caller in
    let ask = c.in-Ok.ask in
    let sent = submission g.C.AskingCore.is_core_of c.args.request ask c.submit.new.self caller (c.in-Ok.ensures.answer caller c.self.invariant) in
    subst (λ (new : Caller). IsCallOf new ask.number c.submit-envelope.result) (sym (ap (λ (s : CallerSight). s.caller) c.submit-envelope.ensures.seat))
    (call_of_submission c.args.request ask caller (with_request ask.request caller) c.submit-envelope.result sent.answer c.submit-envelope.ensures.envelope)
