use Rattle.chord_table.proofs.Telling.{node_told}
use Rattle.chord_table.proofs.node_seat.NodeSeat.look.Goals as goal

pub returns-clause-shown : goal.returns-clause-shown
returns-clause-shown g c = node_told c.self.inside.seat c.args.self.now c.self.invariant c.self.view_is c.look.ensures.shown c.each_scene_holds.ensures
