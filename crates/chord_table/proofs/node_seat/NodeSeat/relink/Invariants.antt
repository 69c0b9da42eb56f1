use Rattle.chord_table.specs.Seen.{OfNode}
use Rattle.chord_table.specs.Views.{crashed_in, no_message}
use Rattle.chord_table.proofs.node_seat.NodeSeat.relink.Given as goal

-- picks the node after the step
abbrev pub ghosts-relink : goal.ghosts-relink
ghosts-relink g a = record { actor = OfNode a.after.now (crashed_in a.self.now.actor); message = no_message }
