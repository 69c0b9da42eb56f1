use Rattle.std.proofs.Common.{false}
use Rattle.chord_table.specs.Seen.{OfNode}
use Rattle.chord_table.specs.Views.{no_message}
use Rattle.chord_table.proofs.registrar.Registrar.admit_node.Given as goal

-- picks the node to admit
abbrev pub ghosts-admit : goal.ghosts-admit
ghosts-admit g a = record { actor = OfNode a.actor.now false; message = no_message }
