use Rattle.chord_table.specs.Seen.{OfCaller}
use Rattle.chord_table.specs.Views.{caller_in, with_submission}
use Rattle.chord_table.proofs.caller_seat.CallerSeat.submit.Given as goal

-- picks the caller after it submitted the call
abbrev pub ghosts-send : goal.ghosts-send
ghosts-send g a = record { actor = OfCaller (with_submission a.message (caller_in a.self.now.actor)); message = a.message }
