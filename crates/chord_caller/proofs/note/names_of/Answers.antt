use Rattle.chord_caller.proofs.Naming.{none_named, name_added}
use Rattle.chord_caller.proofs.note.names_of.Goals as goal

pub loop-done-init : goal.loop-done-init
loop-done-init c = none_named c.new-names.result c.new-names.ensures.empty

pub loop-done-preserved : goal.loop-done-preserved
loop-done-preserved c =
    name_added c.args.dones.now c.loop-done.done-index c.done-item.result c.loop-done.names c.insert.new.self c.loop-done-test.true c.done-item.is
    c.in_ok-insert.ensures.updates c.loop-done.invariant
