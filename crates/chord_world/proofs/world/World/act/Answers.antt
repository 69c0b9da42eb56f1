use Rattle.std.proofs.Common.{sym, subst}
use Rattle.chord_world.specs.Deeds.{Fits, log_of}
use Rattle.chord_world.specs.View.{state_of}
use Rattle.chord_world.proofs.Deeds.{acted_by, fits_at}
use Rattle.chord_world.proofs.world.World.act.Goals as goal

pub act_at-requires-clause-fits : goal.act_at-requires-clause-fits
act_at-requires-clause-fits g c node here =
    fits_at c.args.deed c.args.number node (state_of c.self.inside) c.self.invariant here
    c.no_delivery_clashes.ensures.taken c.no_delivery_clashes.ensures.taken_back
    (subst (Fits c.args.deed c.args.number) (sym c.self.view_is) c.requires)

pub invariant_of-self : goal.invariant_of-self
invariant_of-self g c =
    (acted_by c.args.deed c.args.number
    (state_of c.self.inside) c.args.self.now c.act_at.new.nodes.items
    (log_of c.act_at.new.sent.items c.act_at.new.history.calls) c.act_at.result c.self.view_is
    c.self.invariant
    c.in_ok-can_act.ensures c.requires c.act_at.ensures).world

pub returns : goal.returns
returns g c =
    let did = acted_by c.args.deed c.args.number (state_of c.self.inside) c.args.self.now
    c.act_at.new.nodes.items (log_of c.act_at.new.sent.items c.act_at.new.history.calls)
    c.act_at.result
    c.self.view_is c.self.invariant c.in_ok-can_act.ensures c.requires c.act_at.ensures in
    record { answer = did.answer; step = did.step; ring = did.ring }
