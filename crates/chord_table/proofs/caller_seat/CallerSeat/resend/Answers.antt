use Rattle.std.proofs.Common.{None, Some}
use Rattle.chord_caller.specs.Caller.{Caller}
use Rattle.chord_caller.specs.Caller.Letter.{AskLetter}
use Rattle.chord_table.proofs.Becoming.{caller_follows}
use Rattle.chord_table.proofs.caller_seat.CallerSeat.resend.Goals as goal

pub send-requires-clause-event : goal.send-requires-clause-event
send-requires-clause-event g c =
    caller_follows c.self.inside.seat c.args.self.now (λ (caller : Caller). caller) None (Some (AskLetter c.args.ask)) c.self.invariant c.self.view_is tt c.requires.event
