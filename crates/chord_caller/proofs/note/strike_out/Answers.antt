use Rattle.chord_caller.proofs.Naming.{none_struck, name_struck}
use Rattle.chord_caller.proofs.note.strike_out.Goals as goal

pub loop-done-init : goal.loop-done-init
loop-done-init c = none_struck c.args.names.now

pub loop-done-preserved : goal.loop-done-preserved
loop-done-preserved c =
    name_struck c.args.dones.now c.loop-done.done-index c.done-item.result c.args.names.now c.loop-done.names c.remove.new.self c.loop-done-test.true c.done-item.is
    c.remove.ensures.updates c.loop-done.invariant
