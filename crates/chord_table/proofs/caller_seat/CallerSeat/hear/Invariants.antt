use Rattle.chord_caller.specs.Client.{caller_after_hearing}
use Rattle.chord_table.specs.Seen.{OfCaller}
use Rattle.chord_table.specs.Views.{caller_in, no_message}
use Rattle.chord_table.proofs.caller_seat.CallerSeat.hear.Given as goal

-- picks the caller after it heard the reply
abbrev pub ghosts-local : goal.ghosts-local
ghosts-local g a = record { actor = OfCaller (caller_after_hearing a.after.now (caller_in a.self.now.actor)); message = no_message }
