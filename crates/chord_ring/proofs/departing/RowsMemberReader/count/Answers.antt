use Rattle.std.proofs.Common.{sym}
use Rattle.chord_ring.proofs.Rows.{count_among}
use Rattle.chord_ring.proofs.departing.RowsMemberReader.count.Goals as goal

pub returns : goal.returns
returns c = sym (count_among c.args.self.now.count c.args.self.now.rows.now)
