use Rattle.std.proofs.Common.{arith}
use Rattle.chord_resp.proofs.ShortLines.{size_read}
use Rattle.chord_resp.proofs.reading.machine.Machine.skim_size.Goals as goal

pub returns : goal.returns
returns c =
    let s = c.args.self.now in
    let line = c.in-Some.line in
    let read = size_read c.args.bytes.now s.left s.words s.partial line.number line.length c.in-Some.ensures c.if-bytes-ne36.false (grind (arith, c.if-self-line.false, c.self.view_is)) in
    (read.0, grind (arith, read.1, c.requires, c.self.view_is))
