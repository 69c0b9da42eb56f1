use Rattle.std.proofs.Common.{ap}
use Rattle.chord_table.proofs.Keeping.{in_table}
use Rattle.chord_table.proofs.Standing.{heed_as}
use Rattle.chord_table.proofs.registrar.Registrar.heed.Goals as goal

pub join_seat-requires : goal.join_seat-requires
join_seat-requires g c =
    let at = in_table c.args.table.now.named c.self.invariant.0 c.standing.invariant.0 c.args.table.now.some in
    (at.0, at.1, ap (λ m. m.1) c.standing.invariant.1, at.2, heed_as _ _ _ _ _ _ c.self.invariant.1 c.standing.invariant.1)
