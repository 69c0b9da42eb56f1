use Rattle.chord_table.specs.Seen.{OfCaller}
use Rattle.chord_table.proofs.caller_seat.CallerSeat.send.Given as goal

-- picks the caller after the event, and its message
abbrev pub ghosts-send : goal.ghosts-send
ghosts-send g a = record { actor = OfCaller a.after.now; message = a.message }
