use Rattle.std.proofs.Common.{Bool, sym, subst}
use Rattle.chord_table.proofs.Becoming.{nodes_may_relink}
use Rattle.chord_table.specs.Views.{MayRelink}
use Rattle.chord_table.proofs.node_seat.NodeSeat.relink_alone.Goals as goal

pub relink_alone-requires : goal.relink_alone-requires
relink_alone-requires g c =
    let seat = c.self.inside.seat in
    let now = c.args.self.now in
    let is = c.self.invariant in
    let shows = c.self.view_is in
    let step : MayRelink now.node now.node now.crashed c.args.after.now =
    subst (λ (out : Bool). MayRelink now.node now.node out c.args.after.now) (sym c.requires.live) c.requires.step in
    record { step = nodes_may_relink seat seat now now c.args.after.now is is shows shows c.requires.live step }
