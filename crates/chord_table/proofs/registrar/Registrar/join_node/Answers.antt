use Rattle.chord_table.proofs.Admitting.{may_join_behind}
use Rattle.chord_table.proofs.registrar.Registrar.join_node.Goals as goal

pub admit_behind-seat-requires-clause-may : goal.admit_behind-seat-requires-clause-may
admit_behind-seat-requires-clause-may g c =
    may_join_behind c.args.self.now c.pred.inside.seat c.args.pred.now c.args.node.now c.pred.invariant c.pred.view_is c.requires.live c.requires.may
