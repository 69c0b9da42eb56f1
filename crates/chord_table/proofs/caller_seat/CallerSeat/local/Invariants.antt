use Rattle.chord_table.specs.Seen.{OfCaller}
use Rattle.chord_table.specs.Views.{no_message}
use Rattle.chord_table.proofs.caller_seat.CallerSeat.local.Given as goal

-- picks the caller after the event
abbrev pub ghosts-local : goal.ghosts-local
ghosts-local g a = record { actor = OfCaller a.after.now; message = no_message }
