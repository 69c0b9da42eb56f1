use Rattle.std.proofs.Common.{arith}
use Rattle.chord_resp.proofs.ShortLines.{count_read}
use Rattle.chord_resp.proofs.reading.machine.Machine.skim_count.Goals as goal

pub returns : goal.returns
returns c =
    let s = c.args.self.now in
    let line = c.in-Some.line in
    let read = count_read c.args.bytes.now s.left s.words s.partial line.number line.length c.in-Some.ensures c.if-bytes-ne42.false c.if-line-eq0.false in
    (read.0, grind (arith, read.1, c.requires, c.expect.ensures))
