use Rattle.std.proofs.Common.{rules, ◌≡◌, List, [], ◌∷◌, ◌++◌, Err, length, refl, sym, ap, ◌∙◌, subst, arith}
use Rattle.std.proofs.lemmas.Result.{err_from_is_err_and}
use Rattle.chord_caller.specs.declared.fault.SubmitFault.TheVariants.{Memory}
use Rattle.chord_caller.specs.declared.submitted.RequestProgress.TheVariants.{Pending}
use Rattle.chord_caller.specs.declared.submitted.Submitted.{Submitted}
use Rattle.chord_caller.specs.Answers.{SubmitIs}
use Rattle.chord_caller.specs.Caller.{with_request}
use Rattle.chord_caller.specs.Submitted.{caller_of, IsCaller}
use Rattle.chord_caller.proofs.Submitting.{submit_keeps, submitted_is}
use Rattle.chord_caller.proofs.Views.{Shows, shows, next_waits}
use Rattle.chord_caller.proofs.Steps.{submit_steps, submit_waits}
use Rattle.chord_caller.proofs.caller_core.CallerCore.submit.Goals as goal

pub returns-in-Some-clause-answer : goal.returns-in-Some-clause-answer
returns-in-Some-clause-answer c = (c.in-Some.ensures).0

pub returns-in_err-copy-clause-answer : goal.returns-in_err-copy-clause-answer
returns-in_err-copy-clause-answer c =
    let p = err_from_is_err_and c.from_residual.result c.from_residual.ensures.1 in
    rw (p.1, p.2) c.in_default.ensures

pub returns-in_err-reserve-clause-answer : goal.returns-in_err-reserve-clause-answer
returns-in_err-reserve-clause-answer c =
    let core = c.self.inside in
    let p = err_from_is_err_and c.from_residual-in_err-reserve.result c.from_residual-in_err-reserve.ensures.1 in
    let fits : SubmitIs c.args.request c.args.self.now (Err Memory) c.args.self.now = c.in_default.ensures in
    let same = ap (λ items. caller_of core.number core.window items core.mine.items core.told.items) c.reserve.ensures.items ∙ c.self.view_is in
    rw (p.1, p.2) (fits.0, fits.1, fits.2, same)

pub invariant_of-self-2 : goal.invariant_of-self-2
invariant_of-self-2 c =
    let core = c.self.inside in
    let fits : SubmitIs c.args.request c.args.self.now (Err Memory) c.args.self.now = c.in_default.ensures in
    let window = fits.1 in
    let s : Shows core.number core.window core.floor (length core.submitted.items) c.args.self.now =
    shows core.number core.window core.floor core.submitted.items core.mine.items core.told.items c.args.self.now c.self.view_is c.self.invariant.tied c.self.invariant.floor_is in
    let entry : Submitted = record { progress = Pending c.args.request; mine_seen = c.len.result; told_seen = c.len-2.result } in
    let items = c.push_reserved.ensures.items ∙ ap (λ (all : List Submitted). all ++ entry ∷ []) c.reserve.ensures.items in
    subst (λ (all : List Submitted). IsCaller core.number core.window core.floor all core.mine.items) (sym items)
    (submit_keeps core.number core.window core.floor core.submitted.items core.mine.items entry c.args.request refl (omega arith) c.self.invariant)

pub invariant_of-result : goal.invariant_of-result
invariant_of-result c =
    let core = c.self.inside in
    let fits : SubmitIs c.args.request c.args.self.now (Err Memory) c.args.self.now = c.in_default.ensures in
    let window = fits.1 in
    let s : Shows core.number core.window core.floor (length core.submitted.items) c.args.self.now =
    shows core.number core.window core.floor core.submitted.items core.mine.items core.told.items c.args.self.now c.self.view_is c.self.invariant.tied c.self.invariant.floor_is in
    let within = (c.self.invariant.floor_is).within in
    let small = c.self.invariant.small_window in
    record { above = omega arith; near = omega arith }

pub returns-clause-answer : goal.returns-clause-answer
returns-clause-answer c =
    let core = c.self.inside in
    let fits : SubmitIs c.args.request c.args.self.now (Err Memory) c.args.self.now = c.in_default.ensures in
    let s : Shows core.number core.window core.floor (length core.submitted.items) c.args.self.now =
    shows core.number core.window core.floor core.submitted.items core.mine.items core.told.items c.args.self.now c.self.view_is c.self.invariant.tied c.self.invariant.floor_is in
    let entry : Submitted = record { progress = Pending c.args.request; mine_seen = c.len.result; told_seen = c.len-2.result } in
    let items = c.push_reserved.ensures.items ∙ ap (λ (all : List Submitted). all ++ entry ∷ []) c.reserve.ensures.items in
    let mine_len : c.len.result ≡ length core.mine.items = omega arith in
    let told_len : c.len-2.result ≡ length core.told.items = omega arith in
    let entry_is : entry ≡ record { progress = Pending c.args.request; mine_seen = length core.mine.items; told_seen = length core.told.items } = cc in
    let new = ap (λ all. caller_of core.number core.window all core.mine.items core.told.items) items
    ∙ submitted_is core.number core.window core.submitted.items core.mine.items core.told.items entry c.args.request entry_is
    ∙ ap (with_request c.args.request) c.self.view_is in
    (fits.0, fits.1, fits.2, record { caller = s.number_is; number = omega arith; floor = s.floor_is; request = search rules; hops = refl }, new)

pub returns-clause-step : goal.returns-clause-step
returns-clause-step c = submit_steps c.args.request c.args.self.now _ _ (returns-clause-answer c)

pub returns-clause-waits : goal.returns-clause-waits
returns-clause-waits c =
    let core = c.self.inside in
    submit_waits c.args.request c.args.self.now _ _ (returns-clause-answer c)
    (next_waits core.number core.window core.submitted.items core.mine.items core.told.items c.args.self.now c.self.view_is c.self.invariant.tied c.args.request)
