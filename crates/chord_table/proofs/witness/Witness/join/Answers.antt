use Rattle.std.proofs.Common.{ap}
use Rattle.chord_table.proofs.Keeping.{in_table, gather_as}
use Rattle.chord_table.proofs.witness.Witness.join.Goals as goal

pub join_seat-requires : goal.join_seat-requires
join_seat-requires g c =
    let at = in_table c.args.table.now.named c.self.invariant.0 c.other.invariant.0 c.args.table.now.some in
    (at.0, at.1, ap (λ m. m.1) c.other.invariant.1, at.2, gather_as _ _ _ _ _ _ c.self.invariant.1 c.other.invariant.1)
