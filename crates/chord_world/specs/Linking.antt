-- What a World answers if a node's links are set or read.
use Rattle.std.specs.Prelude.{◌≡◌, ℕ, ◌≤◌, Option, None, Some}
use Rattle.std.specs.Borrow.{Bor}
use Rattle.chord_links.specs.declared.peer.Peer.{Peer}
use Rattle.chord_links.specs.Fingers.{with_finger}
use Rattle.chord_links.specs.NodeLinks.{NodeLinks}
use Rattle.chord_model.specs.Node.{Node}
use Rattle.chord_model.specs.World.{node_at, put_node}
use Rattle.chord_world.specs.State.{WorldState}

-- a node has the fingers 1 to 128
abbrev pub IsFinger : ℕ → Type 0
IsFinger finger = (1 ≤ finger) × (finger ≤ 128)

-- the node with this finger set to this peer
abbrev pub with_finger_at : ℕ → Peer → Node → Node
with_finger_at finger peer node = record node { links = record node.links { fingers = with_finger node.links.fingers finger peer } }

-- the world after a node changed
abbrev pub with_node : Node → WorldState → WorldState
with_node after old = record old { world = record old.world { nodes = put_node after old.world.nodes } }

-- the links of the node of this number, if there is one
abbrev pub LinksAre : ℕ → WorldState → Option (Bor NodeLinks) → Type 0
LinksAre number state None = node_at number state.world.nodes ≡ None
LinksAre number state (Some links) = (node : Node) × (node_at number state.world.nodes ≡ Some node) × (links.now ≡ node.links)
