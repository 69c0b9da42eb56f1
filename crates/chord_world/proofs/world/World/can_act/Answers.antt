use Rattle.chord_world.specs.Handing.CannotAct.{Is_crashed}
use Rattle.chord_world.proofs.Handing.{not_there}
use Rattle.chord_world.proofs.RingLemmas.{fate_old}
use Rattle.chord_world.proofs.world.World.can_act.Goals as goal

pub returns-in_err-is_there : goal.returns-in_err-is_there
returns-in_err-is_there g c =
    not_there c.args.node c.args.self.now c.in_err-is_there.field-0.0 c.from_residual.result c.in_err-is_there.ensures c.from_residual.ensures.1

pub returns-then-is_out : goal.returns-then-is_out
returns-then-is_out g c = Is_crashed c.in_ok-is_there.ensures (fate_old c.args.node _ c.args.self.now _ _ c.self.view_is c.deref.ensures.value c.is_out.ensures c.if-is_out.true)

pub returns : goal.returns
returns g c = (c.in_ok-is_there.ensures, fate_old c.args.node _ c.args.self.now _ _ c.self.view_is c.deref.ensures.value c.is_out.ensures c.if-is_out.false)
