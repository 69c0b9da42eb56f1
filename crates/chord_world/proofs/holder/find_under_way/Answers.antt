use Rattle.std.proofs.Common.{arith}
use Rattle.chord_world.proofs.Holders.{under_way_found, under_way_none}
use Rattle.chord_world.proofs.holder.find_under_way.Goals as goal

pub returns-in-Some-clause-found : goal.returns-in-Some-clause-found
returns-in-Some-clause-found g c = under_way_found c.args.id.number c.args.nodes.now c.args.node.now _ _ c.in-Some.ensures.found

pub returns-clause-none : goal.returns-clause-none
returns-clause-none g c =
    let all = c.outbox_len-place-end.ensures in
    under_way_none c.args.id.number c.args.nodes.now c.args.node.now c.loop-place.place (omega arith) c.loop-place.invariant
