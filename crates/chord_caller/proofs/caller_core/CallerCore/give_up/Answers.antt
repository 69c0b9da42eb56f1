use Rattle.std.proofs.Common.{List, sym, ap, ◌∙◌, subst}
use Rattle.chord_caller.specs.declared.submitted.Submitted.{Submitted}
use Rattle.chord_caller.specs.Caller.{with_given_up}
use Rattle.chord_caller.specs.Submitted.{AreSettled, IsFloor}
use Rattle.chord_caller.proofs.Taking.{gone_settled, gone_keeps, gone_is}
use Rattle.chord_caller.proofs.Waiting.{pending_waits}
use Rattle.chord_caller.proofs.Steps.{give_up_steps}
use Rattle.chord_caller.proofs.caller_core.CallerCore.give_up.Goals as goal

pub give_up_at-requires : goal.give_up_at-requires
give_up_at-requires c =
    let core = c.self.inside in
    pending_waits core.number core.window core.submitted.items core.mine.items core.told.items c.args.self.now c.self.view_is c.self.invariant.tied c.args.number c.requires

pub raise_floor-self-inside-requires-clause-settled : goal.raise_floor-self-inside-requires-clause-settled
raise_floor-self-inside-requires-clause-settled c =
    let core = c.self.inside in
    subst (λ (all : List Submitted). AreSettled core.floor all) (sym c.deref.ensures.value)
    (gone_settled c.args.number core.submitted.items c.give_up_at.new.submitted.items c.give_up_at.ensures core.floor (c.self.invariant.floor_is).settled)

pub invariant_of-self : goal.invariant_of-self
invariant_of-self c =
    let core = c.self.inside in
    let raised = subst (λ (all : List Submitted). IsFloor c.raise_floor-self-inside.result all) c.deref.ensures.value c.raise_floor-self-inside.ensures in
    gone_keeps core.number core.window core.floor c.raise_floor-self-inside.result c.args.number core.submitted.items c.give_up_at.new.submitted.items core.mine.items
    c.give_up_at.ensures c.self.invariant raised

pub returns-clause-answer : goal.returns-clause-answer
returns-clause-answer c =
    let core = c.self.inside in
    gone_is core.number core.window c.args.number core.submitted.items c.give_up_at.new.submitted.items core.mine.items core.told.items c.give_up_at.ensures
    ∙ ap (with_given_up c.args.number) c.self.view_is

pub returns-clause-step : goal.returns-clause-step
returns-clause-step c = give_up_steps c.args.number c.args.self.now _ c.requires (returns-clause-answer c)
