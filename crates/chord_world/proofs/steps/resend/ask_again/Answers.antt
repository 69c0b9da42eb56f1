use Rattle.chord_world.specs.Calling.CannotAskAgain.{Is_idle, No_memory}
use Rattle.chord_world.specs.Calling.IsIdle.{None_pending}
use Rattle.chord_world.proofs.Speaking.{idle_from}
use Rattle.chord_world.proofs.steps.resend.ask_again.Goals as goal

pub returns-in_default : goal.returns-in_default
returns-in_default c = Is_idle (None_pending c.in_default.ensures)

pub returns-in-Err-Idle : goal.returns-in-Err-Idle
returns-in-Err-Idle c = Is_idle (idle_from c.args.named c.args.core.now c.in-Some.number c.in-Some.ensures (rw c.in-Err-Idle.field-0-is at c.in-Err-Idle.ensures.answer))

pub returns-in-Err-Memory : goal.returns-in-Err-Memory
returns-in-Err-Memory c = No_memory (record { number = c.in-Some.number; wanted = c.in-Some.ensures; pending = rw c.in-Err-Memory.field-0-is at c.in-Err-Memory.ensures.answer })
