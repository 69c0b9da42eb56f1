use Rattle.chord_table.specs.Seen.{OfNode}
use Rattle.chord_table.specs.Views.{crashed_in}
use Rattle.chord_table.proofs.node_seat.NodeSeat.send.Given as goal

-- picks the node after the event, and its message
abbrev pub ghosts-send : goal.ghosts-send
ghosts-send g a = record { actor = OfNode a.after.now (crashed_in a.self.now.actor); message = a.message }
