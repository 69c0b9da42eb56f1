use Rattle.std.proofs.Common.{arith}
use Rattle.chord_resp.proofs.WordEnds.{end_begun}
use Rattle.chord_resp.proofs.reading.machine.Machine.skim_return.Goals as goal

pub returns : goal.returns
returns c =
    let s = c.args.self.now in
    let read = end_begun c.args.bytes.now s.left s.words s.partial c.args.length c.requires.line in
    (read.0, grind (arith, read.1, c.requires.phase, c.self.view_is))
