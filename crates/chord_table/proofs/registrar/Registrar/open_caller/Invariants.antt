use Rattle.chord_caller.specs.Answers.{new_caller}
use Rattle.chord_table.specs.Seen.{OfCaller}
use Rattle.chord_table.specs.Views.{no_message}
use Rattle.chord_table.proofs.registrar.Registrar.open_caller.Given as goal

-- picks the caller to admit
abbrev pub ghosts-admit : goal.ghosts-admit
ghosts-admit g a = record { actor = OfCaller (new_caller a.actor.now.0 a.actor.now.1); message = no_message }
