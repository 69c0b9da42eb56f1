use Rattle.chord_world.proofs.Upkeeping.{own_fits, upkept}
use Rattle.chord_world.proofs.world.World.relink.Goals as goal

pub relink_at-requires-clause-place : goal.relink_at-requires-clause-place
relink_at-requires-clause-place g c = (own_fits c.args.node c.args.links _ c.args.self.now c.self.view_is c.self.invariant c.requires.own).0

pub relink_at-requires-clause-fit : goal.relink_at-requires-clause-fit
relink_at-requires-clause-fit g c = (own_fits c.args.node c.args.links _ c.args.self.now c.self.view_is c.self.invariant c.requires.own).1

pub invariant_of-self : goal.invariant_of-self
invariant_of-self g c =
    (upkept c.requires.moved.0 c.args.node c.args.links _ c.args.self.now c.relink_at.new.nodes.items c.self.view_is c.self.invariant c.requires.own c.requires.moved.1 c.relink_at.ensures).after.world

pub returns : goal.returns
returns g c =
    let kept = upkept c.requires.moved.0 c.args.node c.args.links _ c.args.self.now c.relink_at.new.nodes.items c.self.view_is c.self.invariant c.requires.own c.requires.moved.1 c.relink_at.ensures in record {
      moves = λ by moved. (upkept by c.args.node c.args.links _ c.args.self.now c.relink_at.new.nodes.items c.self.view_is c.self.invariant c.requires.own moved c.relink_at.ensures).moves;
      step = kept.after.step;
      ring = kept.after.ring;
    }
