use Rattle.std.proofs.Common.{◌^◌, ◌<◌, rules}
use Rattle.chord_world.specs.View.{state_of}
use Rattle.chord_world.specs.State.{WorldState}
use Rattle.chord_world.proofs.Holders.{holder_is}
use Rattle.chord_world.proofs.world.World.holder.Goals as goal

pub returns : goal.returns
returns g c =
    let view : WorldState = state_of c.self.inside in
    let circle : c.args.id.number < 2 ^ 128 = search rules in
    holder_is c.args.id.number view c.args.self.now c.self.view_is _ c.deref.ensures.value _
    (λ there. c.one_holder.ensures view.world c.args.id.number c.self.invariant.reached there circle)
    c.find_holder.ensures.found c.find_holder.ensures.none
