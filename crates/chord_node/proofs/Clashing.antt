-- No answer of a node is Clash.
use Rattle.std.proofs.Common.{◌≡◌, ⊎_elim, Some, Ok, Contains}
use Rattle.std.proofs.Props.{props}
use mathlib.Core.Logic.{∥∥₁_elim}
use Rattle.chord_handover.specs.declared.ticket.Ticket.{Ticket}
use Rattle.chord_handover.specs.Handover.{Part}
use Rattle.chord_model.proofs.Clash.{back_clear}
use Rattle.chord_model.proofs.Fitting.{part_fits, whole_fits}
use Rattle.chord_model.proofs.Stocked.{no_clash}
use Rattle.chord_node.specs.declared.handovers.part_answer.PartAnswer.TheVariants as given
use Rattle.chord_node.specs.declared.handovers.part_answer.Back.TheVariants as back
use Rattle.chord_model.specs.declared.message.Message.TheVariants.{Part as PartMessage, Declined as DeclinedMessage}
use Rattle.chord_model.specs.Node.{Node}
use Rattle.chord_model.specs.World.{World, Reached, node_at}
use Rattle.chord_node.specs.Received.{PartIs, BackIs}

-- no answer to a part that was sent is Clash
part_no_clash : (world : World) → Reached world → (part : Part) (node new : Node) → Contains world.sent (PartMessage part) → node_at part.to world.nodes ≡ Some node
    → PartIs part node (Ok given.Clash) new → ⊥
part_no_clash world reached part node new was at clash =
    ⊎_elim (part_fits world reached part node was at clash.0) (λ met. whole_fits world reached part node was at clash.0 met.0 met.1 met.2) clash.1

-- the answer to a Declined is not Clash either
back_no_clash : (world : World) → Reached world → (ticket : Ticket) (node new : Node) → Contains world.sent (DeclinedMessage ticket) → node_at ticket.from world.nodes ≡ Some node
    → BackIs ticket node (Ok back.Clash) new → ⊥
back_no_clash world reached ticket node new was at clash =
    no_clash clash.0.segment.span node.held (back_clear world reached ticket node clash.0 was at clash.1) clash.2

-- the same if only the existence of a run is known
pub part_merely : (world : World) → ∥ Reached world ∥₁ → (part : Part) (node new : Node) → Contains world.sent (PartMessage part) → node_at part.to world.nodes ≡ Some node
    → PartIs part node (Ok given.Clash) new → ⊥
part_merely world reached part node new was at clash = ∥∥₁_elim reached (hlevel props) (λ run. part_no_clash world run part node new was at clash)

pub declined_merely : (world : World) → ∥ Reached world ∥₁ → (ticket : Ticket) (node new : Node) → Contains world.sent (DeclinedMessage ticket) → node_at ticket.from world.nodes ≡ Some node
    → BackIs ticket node (Ok back.Clash) new → ⊥
declined_merely world reached ticket node new was at clash = ∥∥₁_elim reached (hlevel props) (λ run. back_no_clash world run ticket node new was at clash)
