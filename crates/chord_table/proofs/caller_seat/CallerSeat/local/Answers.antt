use Rattle.chord_model.specs.Letters.{letter_sent}
use Rattle.chord_table.proofs.Becoming.{caller_may}
use Rattle.chord_table.proofs.caller_seat.CallerSeat.local.Goals as goal

pub local-requires : goal.local-requires
local-requires g c =
    let (sent, may) = c.requires.event in
    record { event = (letter_sent sent, caller_may c.self.inside.seat c.args.self.now c.args.after.now sent c.self.invariant c.self.view_is may) }
