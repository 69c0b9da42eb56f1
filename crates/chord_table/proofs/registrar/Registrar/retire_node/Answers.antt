use Rattle.std.proofs.Common.{[], ap, ◌∙◌}
use Rattle.chord_table.proofs.Retiring.{retire_of}
use Rattle.chord_table.proofs.Keeping.{in_table}
use Rattle.chord_table.specs.Views.{view_of_assembled}
use Rattle.chord_table.proofs.registrar.Registrar.retire_node.Goals as goal

pub load-requires : goal.load-requires
load-requires g c =
    let at = in_table c.args.table.now.named c.self.invariant.0 c.self.invariant.0 c.args.table.now.some in
    let is = c.self.invariant.1 ∙ ap (λ a. (view_of_assembled a, [])) c.self.view_is in
    (at.0, at.2, retire_of _ _ _ _ c.args.self.now c.args.number g.N.Numbered.number (λ n. n) is c.requires.own c.requires.whole c.requires.may c.requires.can)
