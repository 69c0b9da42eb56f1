use Rattle.std.proofs.Common.{arith}
use Rattle.chord_world.specs.Handing.IsMissing.{Uncreated, Missing}
use Rattle.chord_world.proofs.Handing.{is_zero, uncreated, has_node}
use Rattle.chord_world.proofs.Pointing.{node_missing}
use Rattle.chord_world.proofs.Posting.{created, not_zero}
use Rattle.chord_world.proofs.world.World.is_there.Goals as goal

pub returns-then-is_empty : goal.returns-then-is_empty
returns-then-is_empty g c = Uncreated (uncreated _ c.args.self.now c.self.view_is (let none = is_zero _ c.if-is_empty.ensures in omega arith))

pub returns-then-node-len : goal.returns-then-node-len
returns-then-node-len g c =
    Missing (created _ c.args.self.now c.self.view_is (let some = not_zero _ c.if-is_empty.ensures in omega arith))
    (node_missing c.args.node _ c.args.self.now c.self.view_is c.self.invariant (omega arith))

pub returns : goal.returns
returns g c = has_node c.args.node _ c.args.self.now c.self.view_is c.self.invariant (omega arith)
