use Rattle.std.proofs.Common.{rules, ◌≡◌, Some, refl, sym, ap, ◌∙◌}
use Rattle.std.proofs.lemmas.Result.{err_from_is_err_and}
use Rattle.chord_caller.specs.Submitted.{submitted_at, is_over, request_of, submission_of}
use Rattle.chord_caller.proofs.Waiting.{is_waiting, idle_unless}
use Rattle.chord_caller.proofs.Views.{shows, pending_asked, settled_asked, submission_asked, within_window}
use Rattle.chord_caller.proofs.Steps.{resend_steps}
use Rattle.chord_caller.proofs.caller_core.CallerCore.resend.Goals as goal

pub returns-in_default-progress-clause-answer : goal.returns-in_default-progress-clause-answer
returns-in_default-progress-clause-answer c =
    let core = c.self.inside in
    let found = c.in-Some.ensures ∙ ap (submitted_at c.args.number) c.deref.ensures.value in
    sym (pending_asked core.number core.window core.submitted.items core.mine.items core.told.items c.args.self.now c.self.view_is c.self.invariant.tied c.args.number (Some c.in-Some.submitted.now) found)
    ∙ idle_unless c.in-Some.submitted.now.progress c.in_default-progress.not-Pending

pub returns-in_err-request-clause-answer : goal.returns-in_err-request-clause-answer
returns-in_err-request-clause-answer c =
    let core = c.self.inside in
    let found = c.in-Some.ensures ∙ ap (submitted_at c.args.number) c.deref.ensures.value in
    let p = err_from_is_err_and c.from_residual.result c.from_residual.ensures.1 in
    rw (p.1, p.2) (sym (pending_asked core.number core.window core.submitted.items core.mine.items core.told.items c.args.self.now c.self.view_is c.self.invariant.tied c.args.number (Some c.in-Some.submitted.now) found)
    ∙ ap (λ p. is_waiting (Some p)) c.in-Pending.is)

pub invariant_of-result : goal.invariant_of-result
invariant_of-result c =
    let core = c.self.inside in
    let found = c.in-Some.ensures ∙ ap (submitted_at c.args.number) c.deref.ensures.value in
    let bounds = within_window core.number core.window core.floor core.submitted.items core.mine.items c.self.invariant c.args.number c.in-Some.submitted.now c.in-Pending.request found c.in-Pending.is in
    record { above = bounds.0; near = bounds.1 }

pub returns-clause-answer : goal.returns-clause-answer
returns-clause-answer c =
    let core = c.self.inside in
    let found = c.in-Some.ensures ∙ ap (submitted_at c.args.number) c.deref.ensures.value in
    let s = shows core.number core.window core.floor core.submitted.items core.mine.items core.told.items c.args.self.now c.self.view_is c.self.invariant.tied c.self.invariant.floor_is in
    let waits = settled_asked core.number core.window core.submitted.items core.mine.items core.told.items c.args.self.now c.self.view_is c.self.invariant.tied c.args.number (Some c.in-Some.submitted.now) found
    ∙ ap (λ p. is_over (Some p)) c.in-Pending.is in
    let at = submission_asked core.number core.window core.submitted.items core.mine.items core.told.items c.args.self.now c.self.view_is c.args.number (Some c.in-Some.submitted.now) found in
    let request_is = ap (request_of core.mine.items) c.in-Pending.is in
    let copy : c.in_ok-request.request ≡ c.in-Pending.request = search rules in
    (submission_of core.mine.items c.in-Some.submitted.now, at, waits, record { caller = s.number_is; number = refl; floor = s.floor_is; request = copy ∙ sym request_is; hops = refl })

pub returns-clause-step : goal.returns-clause-step
returns-clause-step c = resend_steps c.args.number c.args.self.now _ (returns-clause-answer c)
