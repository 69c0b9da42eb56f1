use Rattle.std.proofs.Common.{◌∙◌, ap, []}
use Rattle.chord_table.proofs.Admitting.{assembled_as}
use Rattle.chord_table.proofs.Giving.{give_as, left_assembled}
use Rattle.chord_table.proofs.Keeping.{in_table}
use Rattle.chord_table.specs.Views.{view_of_assembled}
use Rattle.chord_table.proofs.registrar.Registrar.give.Goals as goal

pub split_seat-seat-requires : goal.split_seat-seat-requires
split_seat-seat-requires g c =
    let at = in_table c.args.table.now.named c.self.invariant.0 c.self.invariant.0 c.args.table.now.some in
    let is = c.self.invariant.1 ∙ ap (λ a. (view_of_assembled a, [])) c.self.view_is in
    (at.0, at.2, give_as _ _ c.args.self.now is c.requires.some)

pub invariant_of-self : goal.invariant_of-self
invariant_of-self g c =
    let is = c.self.invariant.1 ∙ ap (λ a. (view_of_assembled a, [])) c.self.view_is in
    let left = left_assembled _ _ c.args.self.now is c.split_seat-seat.ensures.2 in
    (c.split_seat-seat.ensures.0 ∙ c.self.invariant.0, assembled_as _ _ left)
