use Rattle.std.proofs.Common.{arith}
use Rattle.chord_ring.proofs.Rows.{among_listed}
use Rattle.chord_ring.proofs.departing.RowsMemberReader.listed.Goals as goal

pub returns : goal.returns
returns c = λ number member.
    let found = among_listed c.args.self.now.count c.args.self.now.rows.now number member in
    (found.0, omega (arith, found.1), found.2)
