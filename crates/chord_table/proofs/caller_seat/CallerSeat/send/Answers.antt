use Rattle.chord_table.proofs.Becoming.{caller_may_send}
use Rattle.chord_table.proofs.caller_seat.CallerSeat.send.Goals as goal

pub send-requires-clause-event : goal.send-requires-clause-event
send-requires-clause-event g c =
    let (sent, same, may) = c.requires.event in
    caller_may_send c.self.inside.seat c.args.self.now c.args.after.now sent c.args.message c.self.invariant c.self.view_is same may
