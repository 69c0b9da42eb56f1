-- Nodes with their seats, which are lent to the register while a departure is judged.
-- Source: our own.
use Rattle.std.specs.Prelude.{◌≡◌, ℕ, ◌==◌, ◌||◌, Bool, true, false, Option, None, Some, List, []}
use Rattle.std.specs.List.{list_any}
use Rattle.chord_links.specs.NodeLinks.{NodeLinks}
use Rattle.chord_links.specs.declared.peer.Peer.{Peer}
use Rattle.chord_model.specs.Node.{Node}
use Rattle.chord_model.specs.declared.message.Message.{Message}
use Rattle.chord_model.specs.declared.phase.Phase.{Phase}
use Rattle.chord_model.specs.declared.phase.Phase.TheVariants as phase
use Rattle.chord_table.specs.Views.{NodeSight}

-- the messages that the seat shows
abbrev pub messages_in : Option NodeSight → List Message
messages_in None = []
messages_in (Some sight) = sight.messages

-- the seat is not lent, and shows the node, and whether it crashed
abbrev pub IsSeatOf : Node → Bool → Option NodeSight → Type 0
IsSeatOf node crashed None = ⊥
IsSeatOf node crashed (Some sight) = (node ≡ sight.node) × (crashed ≡ sight.crashed)

-- whether a node of this phase, which crashed or not, is a member of the ring
abbrev pub is_in : Bool → Phase → Bool
is_in true phase = false
is_in false phase.Staying = true
is_in false phase.Leaving = true
is_in false phase.Gone = false

-- the predecessor is the node of this number
abbrev pub HasPredecessor : ℕ → Option Peer → Type 0
HasPredecessor number None = ⊥
HasPredecessor number (Some peer) = peer.number ≡ number

-- whether this is the node of this number
abbrev pub is_node : ℕ → Option Peer → Bool
is_node number None = false
is_node number (Some peer) = peer.number == number

-- whether the node of this number is one of these
abbrev pub has_node : ℕ → List Peer → Bool
has_node number peers = list_any (λ (peer : Peer). peer.number == number) peers

-- whether the links name the node of this number: as the predecessor or in the list
abbrev pub are_naming : ℕ → NodeLinks → Bool
are_naming number links = is_node number links.predecessor || has_node number links.entries
