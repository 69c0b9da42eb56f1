use Rattle.std.proofs.Common.{ap}
use Rattle.chord_table.proofs.Keeping.{in_table, some_words}
use Rattle.chord_table.proofs.Taking.{take_as}
use Rattle.chord_table.proofs.registrar.Registrar.take.Goals as goal

pub join_seat-requires : goal.join_seat-requires
join_seat-requires g c =
    let at = in_table c.args.table.now.named c.self.invariant.0 c.seat.invariant.0 (some_words c.seat.invariant.2) in
    (at.0, at.1, ap (λ m. m.1) c.seat.invariant.1, at.2, take_as _ _ _ _ _ _ c.self.invariant.1 c.seat.invariant.1)
