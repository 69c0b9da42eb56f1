use Rattle.std.proofs.Common.{arith}
use Rattle.chord_world.proofs.Posting.{caller_missing, caller_within, created, not_zero}
use Rattle.chord_world.proofs.world.World.is_caller.Goals as goal

pub returns-then-caller-len : goal.returns-then-caller-len
returns-then-caller-len g c =
    (created _ c.args.self.now c.self.view_is (let some = not_zero _ c.if-is_empty.ensures in omega arith), caller_missing c.args.caller _ c.args.self.now c.self.view_is c.self.invariant (omega arith))

pub returns : goal.returns
returns g c =
    (created _ c.args.self.now c.self.view_is (let some = not_zero _ c.if-is_empty.ensures in omega arith), caller_within c.args.caller _ c.args.self.now c.self.view_is c.self.invariant (omega arith))
