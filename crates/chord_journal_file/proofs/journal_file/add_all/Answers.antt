use Rattle.std.proofs.Common.{◌-◌, length, drop, arith}
use Rattle.std.proofs.lemmas.List.{length-take, length-drop}
use Rattle.chord_journal_file.proofs.Devices.{fails, grows}
use Rattle.chord_journal_file.proofs.journal_file.add_all.Goals as goal

pub loop-at-preserved : goal.loop-at-preserved
loop-at-preserved g c =
    let bytes = c.args.bytes.now in
    let least = c.in-Ok.ensures.bound in (
      omega (arith, least, length-take (length bytes - c.loop-at.at) (drop c.loop-at.at bytes), length-drop c.loop-at.at bytes),
      grows (g.D.Device.held c.args.device.now) (g.D.Device.held c.loop-at.device) (g.D.Device.held c.write.new.self) bytes c.loop-at.at c.in-Ok.count c.loop-at.invariant.1 c.in-Ok.ensures.wrote,
    )

pub returns-in-Err : goal.returns-in-Err
returns-in-Err g c =
    fails (g.D.Device.held c.args.device.now) (g.D.Device.held c.loop-at.device) (g.D.Device.held c.write.new.self) c.args.bytes.now c.loop-at.at c.loop-at.invariant.1 c.in-Err.ensures.wrote
