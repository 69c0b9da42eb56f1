use Rattle.std.proofs.Common.{◌≡◌, List, ◌++◌, ap, ◌∙◌, subst}
use Rattle.chord_map.specs.declared.done.Done.{Done}
use Rattle.chord_caller.specs.Caller.{Note, Caller, unknown_calls}
use Rattle.chord_caller.specs.Submitted.{caller_of}
use Rattle.chord_caller.specs.Unknown.{not_in}
use Rattle.chord_caller.proofs.Steps.{meet_steps}
use Rattle.chord_caller.proofs.caller_core.CallerCore.meet.Goals as goal

pub returns-clause-ok : goal.returns-clause-ok
returns-clause-ok c =
    let core = c.self.inside in
    let listed = c.in_ok-news.ensures ∙ ap (λ (dones : List Done). not_in (c.deref-2.result.now ++ c.deref-3.result.now) dones) (c.deref.ensures.value ∙ ap (λ (note : Note). note.done) c.note.view_is)
    ∙ ap (λ (dones : List Done). not_in (dones ++ c.deref-3.result.now) c.args.note.now.done) c.deref-2.ensures.value
    ∙ ap (λ (dones : List Done). not_in (core.mine.items ++ dones) c.args.note.now.done) c.deref-3.ensures.value in
    let items = c.in_ok-append.ensures.items ∙ ap (λ (dones : List Done). core.told.items ++ dones) listed in
    subst (λ (caller : Caller). caller_of core.number core.window core.submitted.items core.mine.items c.append.new.self.items ≡ record caller { told = caller.told ++ unknown_calls caller c.args.note.now.done }) c.self.view_is
    (ap (λ (dones : List Done). caller_of core.number core.window core.submitted.items core.mine.items dones) items)

pub returns-clause-step : goal.returns-clause-step
returns-clause-step c = meet_steps c.args.self.now c.args.note.now _ (returns-clause-ok c)
