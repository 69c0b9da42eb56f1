use Rattle.chord_table.proofs.Becoming.{node_may_send}
use Rattle.chord_table.proofs.node_seat.NodeSeat.send.Goals as goal

pub send-requires-clause-event : goal.send-requires-clause-event
send-requires-clause-event g c =
    node_may_send c.self.inside.seat c.args.self.now c.args.after.now c.args.message c.self.invariant c.self.view_is c.requires.event
