use Rattle.chord_table.specs.Seen.{OfCaller}
use Rattle.chord_table.specs.Views.{caller_in}
use Rattle.chord_table.proofs.caller_seat.CallerSeat.resend.Given as goal

-- picks the caller as it was
abbrev pub ghosts-send : goal.ghosts-send
ghosts-send g a = record { actor = OfCaller (caller_in a.self.now.actor); message = a.message }
