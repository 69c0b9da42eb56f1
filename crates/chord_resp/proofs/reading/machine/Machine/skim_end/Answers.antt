use Rattle.std.proofs.Common.{arith}
use Rattle.chord_resp.proofs.WordEnds.{end_read}
use Rattle.chord_resp.proofs.reading.machine.Machine.skim_end.Goals as goal

pub returns-in-Ok : goal.returns-in-Ok
returns-in-Ok c =
    let s = c.args.self.now in
    let read = end_read c.args.bytes.now s.left s.words s.partial c.args.length (c.ends_line.ensures c.if-not-ends_line.false) (grind (arith, c.if-self-le1.false, c.self.view_is)) in
    (read.0, grind (arith, read.1, c.requires, c.in-Ok.ensures.ok))
