use Rattle.std.proofs.Common.{◌+◌, None, Some, subst, arith}
use Rattle.chord_caller.specs.Caller.{Caller}
use Rattle.chord_caller.specs.Answers.{PendingIs}
use Rattle.chord_caller.proofs.Waiting.{pending_some, pending_none}
use Rattle.chord_caller.proofs.caller_core.CallerCore.pending.Goals as goal

pub returns-then-self-len : goal.returns-then-self-len
returns-then-self-len c =
    let core = c.self.inside in
    subst (λ (caller : Caller). PendingIs caller (Some (core.floor + 1))) c.self.view_is
    (pending_some core.number core.window core.floor core.submitted.items core.mine.items core.told.items c.self.invariant.tied c.self.invariant.floor_is (omega arith))

pub returns-else-self-len : goal.returns-else-self-len
returns-else-self-len c =
    let core = c.self.inside in
    subst (λ (caller : Caller). PendingIs caller None) c.self.view_is
    (pending_none core.number core.window core.floor core.submitted.items core.mine.items core.told.items c.self.invariant.tied c.self.invariant.floor_is (omega arith))
