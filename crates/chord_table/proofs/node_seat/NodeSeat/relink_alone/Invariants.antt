use Rattle.chord_table.specs.Seen.{OfNode}
use Rattle.chord_table.specs.Views.{crashed_in, no_message}
use Rattle.chord_table.proofs.node_seat.NodeSeat.relink_alone.Given as goal

-- picks the node after the step
abbrev pub ghosts-relink_alone : goal.ghosts-relink_alone
ghosts-relink_alone g a = record { actor = OfNode a.after.now (crashed_in a.self.now.actor); message = no_message }
