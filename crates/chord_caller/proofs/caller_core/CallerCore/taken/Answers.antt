use Rattle.std.proofs.Common.{Some, slice_get, sym, ap, ◌∙◌}
use Rattle.chord_caller.specs.Submitted.{submitted_at, progress_of, has_reply}
use Rattle.chord_caller.proofs.Views.{found_asked, absent_asked}
use Rattle.chord_caller.proofs.caller_core.CallerCore.taken.Goals as goal

pub returns-in-Taken : goal.returns-in-Taken
returns-in-Taken c =
    let core = c.self.inside in
    let found = c.in-Some.ensures ∙ ap (submitted_at c.args.number) c.deref.ensures.value in
    c.done_in.ensures ∙ ap (λ mine. slice_get mine c.in-Taken.place) c.deref-in-Taken.ensures.value
    ∙ found_asked core.number core.window core.submitted.items core.mine.items core.told.items c.args.self.now c.self.view_is c.self.invariant.tied c.args.number c.in-Taken.place
    (ap progress_of (sym found) ∙ ap Some c.in-Taken.is)

pub returns-in-Pending : goal.returns-in-Pending
returns-in-Pending c =
    let core = c.self.inside in
    let found = c.in-Some.ensures ∙ ap (submitted_at c.args.number) c.deref.ensures.value in
    absent_asked core.number core.window core.submitted.items core.mine.items core.told.items c.args.self.now c.self.view_is c.self.invariant.tied c.args.number
    (ap (λ s. has_reply (progress_of s)) (sym found) ∙ ap (λ p. has_reply (Some p)) c.in-Pending.is)

pub returns-in-GivenUp : goal.returns-in-GivenUp
returns-in-GivenUp c =
    let core = c.self.inside in
    let found = c.in-Some.ensures ∙ ap (submitted_at c.args.number) c.deref.ensures.value in
    absent_asked core.number core.window core.submitted.items core.mine.items core.told.items c.args.self.now c.self.view_is c.self.invariant.tied c.args.number
    (ap (λ s. has_reply (progress_of s)) (sym found) ∙ ap (λ p. has_reply (Some p)) c.in-GivenUp.is)

pub returns-in-None : goal.returns-in-None
returns-in-None c =
    let core = c.self.inside in
    let found = c.in-None.ensures ∙ ap (submitted_at c.args.number) c.deref.ensures.value in
    absent_asked core.number core.window core.submitted.items core.mine.items core.told.items c.args.self.now c.self.view_is c.self.invariant.tied c.args.number
    (ap (λ s. has_reply (progress_of s)) (sym found))
