use Rattle.std.proofs.Common.{refl}
use Rattle.chord_live_steps.proofs.GivingUp.{gave_up_least, fewer_above}
use Rattle.chord_live_steps.proofs.seated_core.SeatedCore.give_up_all.Goals as goal

pub loop-number-init : goal.loop-number-init
loop-number-init g c = ((c.args.self.now).caller.given_up, refl)

pub loop-number-smaller : goal.loop-number-smaller
loop-number-smaller g c =
    fewer_above c.in-Some.number c.loop-number.self c.give_up.new.self c.in-Some.ensures
    (gave_up_least c.in-Some.number c.loop-number.self c.give_up.new.self c.give_up.result c.in-Some.ensures c.give_up.ensures)
