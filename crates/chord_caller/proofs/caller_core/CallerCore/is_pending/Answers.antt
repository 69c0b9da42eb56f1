use Rattle.std.proofs.Common.{Some, None, sym, ap, ◌∙◌}
use Rattle.chord_caller.specs.Submitted.{submitted_at}
use Rattle.chord_caller.proofs.Waiting.{is_waiting, idle_unless}
use Rattle.chord_caller.proofs.Views.{pending_asked}
use Rattle.chord_caller.proofs.caller_core.CallerCore.is_pending.Goals as goal

pub returns-in-Pending : goal.returns-in-Pending
returns-in-Pending c =
    let core = c.self.inside in
    let found = c.in-Some.ensures ∙ ap (submitted_at c.args.number) c.deref.ensures.value in
    sym (ap (λ p. is_waiting (Some p)) c.in-Pending.is)
    ∙ pending_asked core.number core.window core.submitted.items core.mine.items core.told.items c.args.self.now c.self.view_is c.self.invariant.tied c.args.number (Some c.in-Some.submitted.now) found

pub returns-in_default : goal.returns-in_default
returns-in_default c =
    let core = c.self.inside in
    let found = c.in-Some.ensures ∙ ap (submitted_at c.args.number) c.deref.ensures.value in
    sym (idle_unless c.in-Some.submitted.now.progress c.in_default.not-Pending)
    ∙ pending_asked core.number core.window core.submitted.items core.mine.items core.told.items c.args.self.now c.self.view_is c.self.invariant.tied c.args.number (Some c.in-Some.submitted.now) found

pub returns-in-None : goal.returns-in-None
returns-in-None c =
    let core = c.self.inside in
    pending_asked core.number core.window core.submitted.items core.mine.items core.told.items c.args.self.now c.self.view_is c.self.invariant.tied c.args.number None
    (c.in-None.ensures ∙ ap (submitted_at c.args.number) c.deref.ensures.value)
