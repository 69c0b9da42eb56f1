use Rattle.chord_table.proofs.Becoming.{nodes_may_relink}
use Rattle.chord_table.proofs.node_seat.NodeSeat.relink.Goals as goal

pub relink-requires : goal.relink-requires
relink-requires g c = record {
  step = nodes_may_relink c.self.inside.seat c.other.inside.seat c.args.self.now c.args.other.now c.args.after.now c.self.invariant c.other.invariant c.self.view_is c.other.view_is c.requires.live c.requires.step;
}
