use Rattle.chord_table.proofs.Keeping.{in_table}
use Rattle.chord_table.proofs.Standing.{again_as}
use Rattle.chord_table.proofs.standing_node.StandingNode.again.Goals as goal

pub split_seat-seat-requires : goal.split_seat-seat-requires
split_seat-seat-requires g c =
    let at = in_table c.args.table.now.named c.self.invariant.0 c.self.invariant.0 c.args.table.now.some in
    (at.0, at.2, again_as _ _ _ c.self.invariant.1)
