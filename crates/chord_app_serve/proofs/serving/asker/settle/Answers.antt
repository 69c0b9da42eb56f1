use Rattle.std.proofs.Common.{◌≤◌, ◌+◌, arith}
use Rattle.chord_live_steps.proofs.GivingUp.{gave_up_least, fewer_above}
use Rattle.chord_app_serve.proofs.Settling.{begun, one_more}
use Rattle.chord_app_serve.proofs.serving.asker.settle.Goals as goal

pub loop-number-init : goal.loop-number-init
loop-number-init g c = begun (c.args.before + c.args.floor) c.args.caller.now

pub loop-number-smaller : goal.loop-number-smaller
loop-number-smaller g c =
    fewer_above c.in-Some.number c.loop-number.caller c.give_up.new.self c.in-Some.ensures
    (gave_up_least c.in-Some.number c.loop-number.caller c.give_up.new.self c.give_up.result c.in-Some.ensures c.give_up.ensures)

pub loop-number-preserved : goal.loop-number-preserved
loop-number-preserved g c =
    let within : c.in-Some.number ≤ c.args.before + c.args.floor = omega (arith, c.if-upto-number.false, c.saturating_add-upto.ensures) in
    one_more (c.args.before + c.args.floor) c.args.caller.now c.in-Some.number c.loop-number.caller c.give_up.new.self within c.loop-number.invariant
    (gave_up_least c.in-Some.number c.loop-number.caller c.give_up.new.self c.give_up.result c.in-Some.ensures c.give_up.ensures)
