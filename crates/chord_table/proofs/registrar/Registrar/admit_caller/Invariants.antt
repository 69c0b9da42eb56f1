use Rattle.chord_table.specs.Seen.{OfCaller}
use Rattle.chord_table.specs.Views.{no_message}
use Rattle.chord_table.proofs.registrar.Registrar.admit_caller.Given as goal

-- picks the caller to admit
abbrev pub ghosts-admit : goal.ghosts-admit
ghosts-admit g a = record { actor = OfCaller a.actor.now; message = no_message }
