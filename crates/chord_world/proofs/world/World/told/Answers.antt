use Rattle.std.proofs.Common.{arith}
use Rattle.chord_world.proofs.Posting.{caller_missing, caller_found}
use Rattle.chord_world.proofs.world.World.told.Goals as goal

pub returns-then-caller-len : goal.returns-then-caller-len
returns-then-caller-len g c = caller_missing c.args.caller _ c.args.self.now c.self.view_is c.self.invariant (omega arith)

pub returns : goal.returns
returns g c = (c.index.result.now, caller_found c.args.caller _ c.args.self.now c.index.result.now c.self.view_is c.self.invariant (omega arith) c.index.ensures, c.told.ensures)
