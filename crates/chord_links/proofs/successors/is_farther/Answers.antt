-- A point between is nearer than the end, and the reverse.
use Rattle.std.proofs.Common.{arith}
use Rattle.chord_links.proofs.Clockwise.{between_nearer, nearer_between}
use Rattle.chord_links.proofs.successors.is_farther.Goals as goal

pub returns : goal.returns
returns c = (
  λ yes. between_nearer c.args.owner.number c.args.last.number c.args.next.number (omega arith) (omega arith) (omega arith) (c.between.ensures.0 yes),
  λ nearer. c.between.ensures.1 (nearer_between c.args.owner.number c.args.last.number c.args.next.number nearer),
)
