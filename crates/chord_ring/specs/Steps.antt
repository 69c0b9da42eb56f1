-- The steps of a ring.
use Rattle.std.specs.Prelude.{◌≡◌, ℕ, ◌<◌, List, [], ◌∷◌, ◌++◌, Option, Some, None, Bool, IsTrue, slice_set, length, drop, true, false, not, ◌||◌, ◌^◌, if◌then◌else◌}
use Rattle.std.specs.List.{Contains}
use Rattle.chord_ident.specs.declared.id.Id.{Id}
use Rattle.chord_ident.specs.Circle.{IsBetween, cuts}
use Rattle.chord_links.specs.Fingers.{no_fingers}
use Rattle.chord_links.specs.declared.peer.Peer.{Peer}
use Rattle.chord_links.specs.NodeLinks.{NodeLinks, alone, first_entry, with_entries}
use Rattle.chord_links.specs.Successors.{behind_successor, behind_predecessor}
use Rattle.chord_ring.specs.Ring.{Members, links_of, is_member, CanDepart}
use Rattle.chord_ring.specs.declared.ring_step.RingStep.{RingStep}
use Rattle.chord_ring.specs.declared.ring_step.RingStep.TheVariants.{Join, Stabilise, Candidate, DropDead, Rectify}

-- the identifiers of all nodes that ever joined, and the links of each member, by number
pub record Ring : Type 0 where
  pub ids : List ℕ
  pub members : Members

-- the links of a new node that joins behind `pred`
abbrev pub joined_links : Peer → NodeLinks → NodeLinks
joined_links new pred = record { me = new; r = pred.r; predecessor = Some pred.me; entries = behind_predecessor new.id.number pred.r pred.entries; fingers = no_fingers new }

-- the links with the list rebuilt from that of this first entry
abbrev pub links_behind : NodeLinks → NodeLinks → NodeLinks
links_behind links head = with_entries links (behind_successor links.me.id.number links.r head.me head.entries)

-- the links without the first entry
abbrev pub without_head : NodeLinks → NodeLinks
without_head links = with_entries links (drop 1 links.entries)

-- the test of IsBetween: whether the identifier lies between two others
abbrev pub is_between : Id → Id → Id → Bool
is_between after x upto = cuts (record { after = after; upto = upto }) x

-- the peer, if it is between the two nodes
abbrev pub peer_between : NodeLinks → NodeLinks → Option Peer → Option Peer
peer_between links head None = None
peer_between links head (Some peer) = if is_between links.me.id peer.id head.me.id then Some peer else None

-- what a member learns from its first entry: that entry's predecessor, if it is between the two
abbrev pub candidate_of : NodeLinks → NodeLinks → Option Peer
candidate_of links head = peer_between links head head.predecessor

-- whether the predecessor gives way: there is none,
-- it is dead, or the notifier is closer to the node
abbrev pub gives_way : Peer → Peer → Bool → Option Peer → Bool
gives_way me notifier live None = true
gives_way me notifier live (Some predecessor) =
    not live || is_between predecessor.id notifier.id me.id

-- the links with the notifier as predecessor, if the old one gives way
abbrev pub rectified_links : NodeLinks → Peer → Bool → NodeLinks
rectified_links links notifier gives = if gives then record links { predecessor = Some notifier } else links

-- whether there is a peer and it is live
abbrev pub is_live : Members → Option Peer → Bool
is_live members None = false
is_live members (Some peer) = is_member members peer.number

-- the ring with the links of one member replaced
abbrev pub with_links : Ring → ℕ → NodeLinks → Ring
with_links ring node links = record ring { members = slice_set ring.members node (Some links) }

-- a node with this identifier joins behind a member
pub record Joins (old : Ring) (id pred : ℕ) (new : Ring) : Type 0 where
  pub links : NodeLinks
  pub is_its : links_of old.members pred ≡ Some links
  pub is_id : id < 2 ^ 128
  pub is_unused : ¬ (Contains old.ids id)
  pub is_between : IsBetween links.me.id.number id (first_entry links).id.number
  pub ids : new.ids ≡ old.ids ++ id ∷ []
  pub members : new.members ≡ old.members ++ Some (joined_links (record { number = length old.ids; id = record { number = id } }) links) ∷ []

-- a member copies the list of its first entry, which is live
pub record Stabilises (old : Ring) (node head : ℕ) (new : Ring) : Type 0 where
  pub links : NodeLinks
  pub theirs : NodeLinks
  pub is_its : links_of old.members node ≡ Some links
  pub is_live : links_of old.members head ≡ Some theirs
  pub is_first : first_entry links ≡ theirs.me
  pub result : new ≡ with_links old node (links_behind links theirs)

-- a member takes a live node between itself and its first entry as its first entry
pub record TakesCandidate (old : Ring) (node peer : ℕ) (new : Ring) : Type 0 where
  pub links : NodeLinks
  pub theirs : NodeLinks
  pub is_its : links_of old.members node ≡ Some links
  pub is_live : links_of old.members peer ≡ Some theirs
  pub is_between : IsBetween links.me.id.number theirs.me.id.number (first_entry links).id.number
  pub result : new ≡ with_links old node (links_behind links theirs)

-- a member drops its first entry, which is dead
pub record DropsDead (old : Ring) (node : ℕ) (new : Ring) : Type 0 where
  pub links : NodeLinks
  pub is_its : links_of old.members node ≡ Some links
  pub is_dead : ¬ (IsTrue (is_member old.members (first_entry links).number))
  pub result : new ≡ with_links old node (without_head links)

-- a member hears of another member that may be its predecessor
pub record Rectifies (old : Ring) (node notifier : ℕ) (new : Ring) : Type 0 where
  pub links : NodeLinks
  pub theirs : NodeLinks
  pub is_its : links_of old.members node ≡ Some links
  pub is_theirs : links_of old.members notifier ≡ Some theirs
  pub result : new ≡ with_links old node (rectified_links links theirs.me (gives_way links.me theirs.me (is_live old.members links.predecessor) links.predecessor))

-- one step of a ring
abbrev pub Step : Ring → RingStep → Ring → Type 0
Step old (Join id pred) new = Joins old id.number pred new
Step old (Stabilise node head) new = Stabilises old node head new
Step old (Candidate node peer) new = TakesCandidate old node peer new
Step old (DropDead node) new = DropsDead old node new
Step old (Rectify node notifier) new = Rectifies old node notifier new

-- a ring of one node, which knows no other
abbrev pub founded_ring : ℕ → ℕ → Ring
founded_ring id r = record { ids = id ∷ []; members = Some (alone (record { number = 0; id = record { number = id } }) r) ∷ [] }

-- the ring without this member
abbrev pub ring_without : Ring → ℕ → Ring
ring_without ring node = record ring { members = slice_set ring.members node None }

-- a ring that some steps and departures lead to; after each departure the others are safe
pub data IsReached : Ring → Type 0 where
  is_founded : (id r : ℕ) → id < 2 ^ 128 → 0 < r → IsReached (founded_ring id r)
  after_step : {old new : Ring} (step : RingStep) → IsReached old → Step old step new → IsReached new
  after_departure : {old : Ring} (node : ℕ) → IsReached old → CanDepart old.members node → IsReached (ring_without old node)
