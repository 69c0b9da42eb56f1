use Rattle.std.proofs.Common.{Ok, ap, subst}
use Rattle.chord_caller.proofs.Steps.{resend_steps}
use Rattle.chord_live_steps.proofs.Submitting.{call_of_resend}
use Rattle.chord_caller.specs.Answers.{ResendIs}
use Rattle.chord_caller.specs.Caller.{Caller}
use Rattle.chord_table.specs.Views.{CallerSight}
use Rattle.chord_live_steps.proofs.seated_core.SeatedCore.resend.Goals as goal

pub resend-requires-2 : goal.resend-requires-2
resend-requires-2 g c =
    let caller = c.self.inside.seat.caller in
    record { event = resend_steps c.args.number caller c.in-Ok.ask (c.in-Ok.ensures caller c.self.invariant) }

pub returns-clause-envelope : goal.returns-clause-envelope
returns-clause-envelope g c =
    let caller = c.self.inside.seat.caller in (
      c.in-Ok.ask,
      subst (λ (old : Caller). ResendIs c.args.number old (Ok c.in-Ok.ask)) (ap (λ (s : CallerSight). s.caller) c.self.view_is) (c.in-Ok.ensures caller c.self.invariant),
      c.resend-2.ensures.envelope,
    )

pub returns-clause-call : goal.returns-clause-call
returns-clause-call g c =
    let caller = c.self.inside.seat.caller in
    call_of_resend c.args.number c.in-Ok.ask caller (c.resend-2.new.self).caller c.resend-2.result (c.in-Ok.ensures caller c.self.invariant) c.resend-2.ensures.envelope
    (ap (λ (s : CallerSight). s.caller) c.resend-2.ensures.seat)
