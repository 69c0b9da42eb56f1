-- What the rows have below the count, and none past it.
use Rattle.std.proofs.Common.{arith, sym, ◌∙◌}
use Rattle.chord_ring.proofs.Rows.{links_among, none_among}
use Rattle.chord_ring.proofs.departing.RowsMemberReader.member.Goals as goal

pub returns-then-number-self : goal.returns-then-number-self
returns-then-number-self c = sym (none_among c.args.self.now.count c.args.self.now.rows.now c.args.number (omega arith))

pub returns : goal.returns
returns c = c.links_in.ensures ∙ sym (links_among c.args.self.now.count c.args.self.now.rows.now c.args.number (omega arith))
