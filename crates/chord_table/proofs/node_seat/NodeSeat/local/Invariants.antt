use Rattle.chord_table.specs.Seen.{OfNode}
use Rattle.chord_table.specs.Views.{crashed_in, no_message}
use Rattle.chord_table.proofs.node_seat.NodeSeat.local.Given as goal

-- picks the node after the event
abbrev pub ghosts-local : goal.ghosts-local
ghosts-local g a = record { actor = OfNode a.after.now (crashed_in a.self.now.actor); message = no_message }
