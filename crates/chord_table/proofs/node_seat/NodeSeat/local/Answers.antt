use Rattle.chord_table.proofs.Becoming.{node_may}
use Rattle.chord_table.proofs.node_seat.NodeSeat.local.Goals as goal

pub local-requires : goal.local-requires
local-requires g c =
    let (sent, may) = c.requires.event in
    record { event = (sent, node_may c.self.inside.seat c.args.self.now c.args.after.now sent c.self.invariant c.self.view_is may c.requires.place) }
