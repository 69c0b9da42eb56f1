use Rattle.std.proofs.Common.{arith}
use Rattle.chord_world.proofs.Holders.{found_at, none_at_all, over_one_more_node}
use Rattle.chord_world.proofs.Posting.{got}
use Rattle.chord_world.proofs.holder.find_holder.Goals as goal

pub returns-in-Some-clause-found : goal.returns-in-Some-clause-found
returns-in-Some-clause-found g c =
    let at = got c.args.nodes.now c.loop-node.node-index c.node-item.result (omega arith) c.node-item.is in
    found_at c.args.id.number c.args.nodes.now c.loop-node.node-index c.node-item.result c.in-Some.holder at c.in-Some.ensures.found

pub loop-node-preserved : goal.loop-node-preserved
loop-node-preserved g c =
    let at = got c.args.nodes.now c.loop-node.node-index c.node-item.result (omega arith) c.node-item.is in
    over_one_more_node c.args.id.number c.args.nodes.now c.loop-node.node-index c.node-item.result at c.in_default.ensures.none c.loop-node.invariant

pub returns-clause-none : goal.returns-clause-none
returns-clause-none g c = none_at_all c.args.id.number c.args.nodes.now c.loop-node.node-index (omega arith) c.loop-node.invariant
