use Rattle.std.proofs.Common.{◌≡◌, List, ◌++◌, ap, ap₂, ◌∙◌, subst}
use Rattle.chord_map.specs.declared.done.Done.{Done}
use Rattle.chord_caller.specs.Caller.{Note, Caller, known_calls}
use Rattle.chord_caller.proofs.Steps.{show_steps}
use Rattle.chord_caller.proofs.caller_core.CallerCore.show.Goals as goal

pub returns-clause-note : goal.returns-clause-note
returns-clause-note c =
    let core = c.self.inside in
    let items = c.in_ok-append.ensures.items ∙ ap₂ ◌++◌ (c.in_ok-done.ensures ∙ c.deref.ensures.value) (c.in_ok-told.ensures ∙ c.deref-2.ensures.value) in
    subst (λ (caller : Caller). ◌≡◌ {A = Note} (record { caller = core.number; done = c.append.new.self.items }) (record { caller = caller.number; done = known_calls caller })) c.self.view_is
    (ap (λ (dones : List Done). record { caller = core.number; done = dones }) items)

pub returns-clause-step : goal.returns-clause-step
returns-clause-step c = show_steps c.args.self.now _ (returns-clause-note c)
