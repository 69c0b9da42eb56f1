-- A ring of nodes, and the links of its nodes on an ideal ring.
use Rattle.std.specs.Prelude.{◌≡◌, ℕ, ◌+◌, ◌%◌, ◌^◌, ◌<◌, ◌≤◌, List, Some, All, Contains}
use Rattle.chord_ident.specs.Circle.{distance, walk}
use Rattle.chord_links.specs.declared.peer.Peer.{Peer}
use Rattle.chord_links.specs.NodeLinks.{NodeLinks, first_entry}
use Rattle.chord_links.specs.Fingers.{start_of, finger_at}

-- nodes whose identifiers lie on the circle
abbrev pub IsRing : List Peer → Type 0
IsRing ring = All (λ node. node.id.number < 2 ^ 128) ring

-- the first node at or after the key, going clockwise
pub record IsSuccessor (ring : List Peer) (key : ℕ) (node : Peer) : Type 0 where
  pub member : Contains ring node
  pub first : All (λ other. distance key node.id.number ≤ distance key other.id.number) ring

-- the last node before the key, going clockwise
pub record IsPredecessor (ring : List Peer) (key : ℕ) (node : Peer) : Type 0 where
  pub member : Contains ring node
  pub last : All (λ other. walk node.id.number key ≤ walk other.id.number key) ring

-- a node of the ring knows its successor, and whatever fingers it has are nodes of the ring
pub record IsSettled (ring : List Peer) (links : NodeLinks) : Type 0 where
  pub member : Contains ring links.me
  pub first : IsSuccessor ring ((links.me.id.number + 1) % 2 ^ 128) (first_entry links)
  pub owner : links.fingers.me ≡ links.me
  pub fingers : (i : ℕ) (node : Peer) → 1 ≤ i → i ≤ 128 → finger_at links.fingers i ≡ Some node → Contains ring node

-- the first entry and the fingers of a node of the ring are exact
pub record IsIdeal (ring : List Peer) (links : NodeLinks) : Type 0 where
  pub member : Contains ring links.me
  pub first : IsSuccessor ring ((links.me.id.number + 1) % 2 ^ 128) (first_entry links)
  pub owner : links.fingers.me ≡ links.me
  pub fingers : (i : ℕ) → 1 ≤ i → i ≤ 128 → (node : Peer) × (finger_at links.fingers i ≡ Some node) × IsSuccessor ring (start_of links.me.id.number i) node
