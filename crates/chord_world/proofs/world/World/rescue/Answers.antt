use Rattle.std.proofs.Common.{true, refl}
use Rattle.chord_world.specs.Deeds.{log_of}
use Rattle.chord_world.specs.View.{state_of}
use Rattle.chord_world.specs.State.{WorldState}
use Rattle.chord_world.proofs.RingLemmas.{fate_old}
use Rattle.chord_world.proofs.Rescuing.{rescues_at}
use Rattle.chord_world.proofs.world.World.rescue.Goals as goal

pub invariant_of-self : goal.invariant_of-self
invariant_of-self g c =
    let view : WorldState = state_of c.self.inside in
    let crashed = fate_old c.args.node view c.args.self.now _ true c.self.view_is
    c.deref.ensures.value c.if-not-is_out.ensures refl in
    (rescues_at c.args.node view c.args.self.now c.act_at.new.nodes.items
    (log_of c.act_at.new.sent.items c.act_at.new.history.calls) _ c.act_at.result c.self.view_is
    c.self.invariant crashed c.act_at.ensures refl).after.world

pub returns : goal.returns
returns g c =
    let view : WorldState = state_of c.self.inside in
    let crashed = fate_old c.args.node view c.args.self.now _ true c.self.view_is
    c.deref.ensures.value c.if-not-is_out.ensures refl in
    let did = rescues_at c.args.node view c.args.self.now c.act_at.new.nodes.items
    (log_of c.act_at.new.sent.items c.act_at.new.history.calls) _ c.act_at.result c.self.view_is
    c.self.invariant crashed c.act_at.ensures refl in
    record { answer = did.rescues; step = did.after.step; ring = did.after.ring }
