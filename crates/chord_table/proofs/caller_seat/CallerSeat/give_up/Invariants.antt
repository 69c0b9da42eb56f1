use Rattle.chord_caller.specs.Caller.{with_given_up}
use Rattle.chord_table.specs.Seen.{OfCaller}
use Rattle.chord_table.specs.Views.{caller_in, no_message}
use Rattle.chord_table.proofs.caller_seat.CallerSeat.give_up.Given as goal

-- picks the caller after it gave the call up
abbrev pub ghosts-local : goal.ghosts-local
ghosts-local g a = record { actor = OfCaller (with_given_up a.after.now (caller_in a.self.now.actor)); message = no_message }
