use Rattle.std.proofs.Common.{rules, ◌≡◌, true, false, Some, List, inr, refl, sym, ap, ◌∙◌, subst}
use Rattle.std.proofs.lemmas.Option.{same_Some}
use Rattle.std.proofs.lemmas.Result.{err_from_is_err_and}
use Rattle.chord_map.specs.Map.{fits}
use Rattle.chord_map.specs.declared.done.Done.{Done}
use Rattle.chord_caller.specs.declared.submitted.RequestProgress.TheVariants.{Pending}
use Rattle.chord_caller.specs.declared.submitted.Submitted.{Submitted}
use Rattle.chord_caller.specs.Caller.{Caller, with_reply}
use Rattle.chord_caller.specs.Submitted.{submitted_at, is_over, AreSettled, IsFloor, Settles, request_of, submission_of, caller_of}
use Rattle.chord_caller.proofs.Views.{settled_asked, submission_asked, fresh_is}
use Rattle.chord_caller.proofs.Taking.{over_entry, over_stays, settled_keeps, settled_is}
use Rattle.chord_caller.proofs.Waiting.{over_unless}
use Rattle.chord_caller.proofs.Steps.{fresh_steps, known_steps}
use Rattle.chord_caller.proofs.caller_core.CallerCore.take.Goals as goal

pub returns-in_default-progress-clause-answer : goal.returns-in_default-progress-clause-answer
returns-in_default-progress-clause-answer c =
    let core = c.self.inside in
    let found = c.in-Some.ensures ∙ ap (submitted_at c.args.told.number) c.deref.ensures.value in
    let settled = settled_asked core.number core.window core.submitted.items core.mine.items core.told.items c.args.self.now c.self.view_is c.self.invariant.tied c.args.told.number (Some c.in-Some.submitted.now) found
    ∙ over_unless c.in-Some.submitted.now.progress c.in_default-progress.not-Pending in
    (c.if-told-self.false ∙ ap (λ (caller : Caller). caller.number) c.self.view_is, settled, refl)

pub returns-in_default-progress-clause-step : goal.returns-in_default-progress-clause-step
returns-in_default-progress-clause-step c = known_steps c.args.told c.args.self.now c.args.self.now (returns-in_default-progress-clause-answer c)

pub returns-then-not-fits-clause-answer : goal.returns-then-not-fits-clause-answer
returns-then-not-fits-clause-answer c =
    let core = c.self.inside in
    let found = c.in-Some.ensures ∙ ap (submitted_at c.args.told.number) c.deref.ensures.value in
    let waits = settled_asked core.number core.window core.submitted.items core.mine.items core.told.items c.args.self.now c.self.view_is c.self.invariant.tied c.args.told.number (Some c.in-Some.submitted.now) found
    ∙ ap (λ p. is_over (Some p)) c.in-Pending.is in
    let at = submission_asked core.number core.window core.submitted.items core.mine.items core.told.items c.args.self.now c.self.view_is c.args.told.number (Some c.in-Some.submitted.now) found in
    let misfit : fits c.args.told.reply c.in-Pending.request ≡ false = search rules in
    (inr (inr (submission_of core.mine.items c.in-Some.submitted.now, at, waits, ap (λ p. fits c.args.told.reply (request_of core.mine.items p)) c.in-Pending.is ∙ misfit)), refl)

pub returns-in_err-reserve-clause-answer : goal.returns-in_err-reserve-clause-answer
returns-in_err-reserve-clause-answer c =
    let core = c.self.inside in
    let found = c.in-Some.ensures ∙ ap (submitted_at c.args.told.number) c.deref.ensures.value in
    let waits = settled_asked core.number core.window core.submitted.items core.mine.items core.told.items c.args.self.now c.self.view_is c.self.invariant.tied c.args.told.number (Some c.in-Some.submitted.now) found
    ∙ ap (λ p. is_over (Some p)) c.in-Pending.is in
    let at = submission_asked core.number core.window core.submitted.items core.mine.items core.told.items c.args.self.now c.self.view_is c.args.told.number (Some c.in-Some.submitted.now) found in
    let fit : fits c.args.told.reply c.in-Pending.request ≡ true = search rules in
    let fit_is = ap (λ p. fits c.args.told.reply (request_of core.mine.items p)) c.in-Pending.is ∙ fit in
    let own = c.if-told-self.false ∙ ap (λ (caller : Caller). caller.number) c.self.view_is in
    let fresh = fresh_is c.args.told c.args.self.now (submission_of core.mine.items c.in-Some.submitted.now) own waits at fit_is in
    let same = ap (λ items. caller_of core.number core.window core.submitted.items items core.told.items) c.reserve.ensures.items ∙ c.self.view_is in
    let p = err_from_is_err_and c.from_residual.result c.from_residual.ensures.1 in
    rw (p.1, p.2) (request_of core.mine.items c.in-Some.submitted.now.progress, fresh, same)

pub raise_floor-self-inside-requires-clause-settled : goal.raise_floor-self-inside-requires-clause-settled
raise_floor-self-inside-requires-clause-settled c =
    let core = c.self.inside in
    let settled = c.settle.ensures in
    subst (λ (all : List Submitted). AreSettled core.floor all) (sym (c.deref-2.ensures.value ∙ settled.submitted_is))
    (over_stays core.submitted.items settled.place settled.entry (over_entry c.reserve.new.self.items settled.entry) settled.entry_is refl core.floor (c.self.invariant.floor_is).settled)

pub invariant_of-self-2 : goal.invariant_of-self-2
invariant_of-self-2 c =
    let core = c.self.inside in
    let settled = subst (λ (all : List Done). Settles c.args.told core.submitted.items all c.settle.new.submitted.items c.settle.new.mine.items) c.reserve.ensures.items c.settle.ensures in
    let raised = subst (λ (all : List Submitted). IsFloor c.raise_floor-self-inside.result all) c.deref-2.ensures.value c.raise_floor-self-inside.ensures in
    settled_keeps core.number core.window core.floor c.raise_floor-self-inside.result core.submitted.items core.mine.items c.settle.new.submitted.items c.settle.new.mine.items c.args.told
    c.if-told-self.false settled c.self.invariant raised

pub returns-clause-answer : goal.returns-clause-answer
returns-clause-answer c =
    let core = c.self.inside in
    let settled = subst (λ (all : List Done). Settles c.args.told core.submitted.items all c.settle.new.submitted.items c.settle.new.mine.items) c.reserve.ensures.items c.settle.ensures in
    let found = c.in-Some.ensures ∙ ap (submitted_at c.args.told.number) c.deref.ensures.value in
    let waits = settled_asked core.number core.window core.submitted.items core.mine.items core.told.items c.args.self.now c.self.view_is c.self.invariant.tied c.args.told.number (Some c.in-Some.submitted.now) found
    ∙ ap (λ p. is_over (Some p)) c.in-Pending.is in
    let at = submission_asked core.number core.window core.submitted.items core.mine.items core.told.items c.args.self.now c.self.view_is c.args.told.number (Some c.in-Some.submitted.now) found in
    let fit : fits c.args.told.reply c.in-Pending.request ≡ true = search rules in
    let request_is = ap (request_of core.mine.items) c.in-Pending.is in
    let fit_is = ap (fits c.args.told.reply) request_is ∙ fit in
    let own = c.if-told-self.false ∙ ap (λ (caller : Caller). caller.number) c.self.view_is in
    let fresh = fresh_is c.args.told c.args.self.now (submission_of core.mine.items c.in-Some.submitted.now) own waits at fit_is in
    let same = same_Some c.in-Some.submitted.now settled.entry (found ∙ ap (λ n. submitted_at n core.submitted.items) settled.number_is ∙ settled.entry_is) in
    let progress : Pending c.in-Pending.request ≡ Pending settled.request = sym c.in-Pending.is ∙ ap (λ (s : Submitted). s.progress) same ∙ settled.waits in
    let request : c.in-Pending.request ≡ settled.request = cc in
    let new = settled_is core.number core.window core.submitted.items core.mine.items core.told.items c.settle.new.submitted.items c.settle.new.mine.items c.args.told c.if-told-self.false settled c.self.invariant.tied in
    (settled.request, fresh ∙ ap Some (request_is ∙ request), new ∙ ap (with_reply c.args.told settled.request) c.self.view_is)

pub returns-clause-step : goal.returns-clause-step
returns-clause-step c = fresh_steps c.args.told c.args.self.now _ (returns-clause-answer c)
