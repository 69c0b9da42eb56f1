-- What holds of every ring that is reached.
use Rattle.std.specs.Prelude.{◌≡◌, ℕ, ◌^◌, ◌<◌, ◌≤◌, List, length, Some}
use Rattle.std.specs.Prelude.{slice_get}
use Rattle.std.specs.List.{AllByRecursion}
use Rattle.chord_links.specs.declared.peer.Peer.{Peer}
use Rattle.chord_links.specs.NodeLinks.{NodeLinks}
use Rattle.chord_links.specs.Successors.{Rises}
use Rattle.chord_ring.specs.Ring.{links_of, IsSafe}
use Rattle.chord_ring.specs.Steps.{Ring}

-- the peer is a node that was once a member
abbrev pub IsPeerOf : List ℕ → Peer → Type 0
IsPeerOf ids peer = slice_get ids peer.number ≡ Some peer.id.number

-- identifiers are on the circle, and no two nodes have the same one
pub record IdsSound (ids : List ℕ) : Type 0 where
  pub fit : (node id : ℕ) → slice_get ids node ≡ Some id → id < 2 ^ 128
  pub apart : (node other id : ℕ) → slice_get ids node ≡ Some id → slice_get ids other ≡ Some id → node ≡ other

-- a member's links name nodes that were once members, at rising distances, at most r of them
pub record LinksSound (ids : List ℕ) (node : ℕ) (links : NodeLinks) : Type 0 where
  pub number : links.me.number ≡ node
  pub me_known : IsPeerOf ids links.me
  pub known : AllByRecursion (IsPeerOf ids) links.entries
  pub rises : Rises links.me.id.number 0 links.entries
  pub short : length links.entries ≤ links.r
  pub positive : 0 < links.r

pub record IsSound (ring : Ring) : Type 0 where
  pub ids : IdsSound ring.ids
  pub lengths : length ring.members ≡ length ring.ids
  pub each : (node : ℕ) (links : NodeLinks) → links_of ring.members node ≡ Some links → LinksSound ring.ids node links
  pub safe : IsSafe ring.members
