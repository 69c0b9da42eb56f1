use Rattle.std.proofs.Common.{refl}
use Rattle.std.proofs.lemmas.Option.{slice_get_within}
use Rattle.chord_world.specs.View.{state_of}
use Rattle.chord_world.specs.State.{WorldState}
use Rattle.chord_world.specs.Calling.{GaveUp}
use Rattle.chord_world.proofs.Answering.{world_after, step_after}
use Rattle.chord_world.proofs.Speaking.{heard_is_world, can_give_up, gave_up_step, gave_up_is, gives_up_after}
use Rattle.chord_world.proofs.Acting.{keeps_same, keeps_all}
use Rattle.chord_world.proofs.Handing.{advances_not}
use Rattle.chord_world.proofs.world.World.give_up.Goals as goal

pub give_up_at-requires-clause-place : goal.give_up_at-requires-clause-place
give_up_at-requires-clause-place g c =
    let can = can_give_up c.args.caller c.args.number (state_of c.self.inside) c.args.self.now c.self.view_is c.self.invariant c.in_ok-may_give_up.ensures in
    slice_get_within c.self.inside.callers.items c.args.caller can.core can.here

pub give_up_at-requires-clause-can : goal.give_up_at-requires-clause-can
give_up_at-requires-clause-can g c = can_give_up c.args.caller c.args.number (state_of c.self.inside) c.args.self.now c.self.view_is c.self.invariant c.in_ok-may_give_up.ensures

pub invariant_of-self : goal.invariant_of-self
invariant_of-self g c =
    let view : WorldState = state_of c.self.inside in
    let gone : GaveUp c.args.caller c.args.number view.world.callers c.give_up_at.new.callers.items = c.give_up_at.ensures in
    world_after view _ _ (gave_up_is c.args.caller c.args.number view c.give_up_at.new.callers.items c.self.invariant gone)
    (heard_is_world c.args.caller (gone.can).core _ view c.self.invariant (gone.can).here refl (gave_up_step c.args.caller c.args.number view c.self.invariant gone.can))

pub returns : goal.returns
returns g c =
    let view : WorldState = state_of c.self.inside in
    let gone : GaveUp c.args.caller c.args.number view.world.callers c.give_up_at.new.callers.items = c.give_up_at.ensures in record {
      answer = gives_up_after c.args.caller c.args.number view c.args.self.now c.give_up_at.new.callers.items c.self.view_is c.self.invariant gone;
      step = step_after view c.args.self.now _ _ c.self.view_is (gave_up_is c.args.caller c.args.number view c.give_up_at.new.callers.items c.self.invariant gone)
          (gave_up_step c.args.caller c.args.number view c.self.invariant gone.can);
      ring = keeps_same _ c.args.self.now _ c.self.view_is refl refl;
    }

pub returns-in_err-may_give_up-clause-step : goal.returns-in_err-may_give_up-clause-step
returns-in_err-may_give_up-clause-step g c = advances_not c.args.self.now c.args.self.now _ c.from_residual.result c.from_residual.ensures.1 refl

pub returns-in_err-may_give_up-clause-ring : goal.returns-in_err-may_give_up-clause-ring
returns-in_err-may_give_up-clause-ring g c = keeps_all c.args.self.now
