use Rattle.std.proofs.Common.{arith}
use Rattle.chord_world.proofs.Pointing.{node_missing, node_found}
use Rattle.chord_world.proofs.world.World.links.Goals as goal

pub returns-then-node-len : goal.returns-then-node-len
returns-then-node-len g c = node_missing c.args.node _ c.args.self.now c.self.view_is c.self.invariant (omega arith)

pub returns : goal.returns
returns g c = (c.index.result.now, node_found c.args.node _ c.args.self.now c.index.result.now c.self.view_is c.self.invariant (omega arith) c.index.ensures, c.links.ensures)
