-- Why a ring does not take a step: the first reason that applies.
use Rattle.std.specs.Prelude.{Bool, ◌≡◌, ◌≢◌, ℕ, ◌<◌, ◌≤◌, ◌⊎◌, length, Some, Option, IsTrue, false}
use Rattle.std.specs.List.{Contains}
use Rattle.chord_ident.specs.Circle.{IsBetween}
use Rattle.chord_links.specs.declared.peer.Peer.{Peer}
use Rattle.chord_links.specs.NodeLinks.{NodeLinks, first_entry}
use Rattle.chord_ring.specs.declared.ring_step.RingStep.{RingStep}
use Rattle.chord_ring.specs.declared.ring_step.RingStep.TheVariants as step
use Rattle.chord_ring.specs.declared.steps.StabiliseFault.TheVariants.{HeadDead, NotHead}
use Rattle.chord_ring.specs.declared.steps.CandidateFault.TheVariants.{Dead, NotCloser}
use Rattle.chord_ring.specs.declared.steps.DropFault.TheVariants.{HeadLive, Empty}
use Rattle.chord_ring.specs.declared.ring_fault.RingFault.{RingFault}
use Rattle.chord_ring.specs.declared.ring_step.RingDid.{RingDid}
use Rattle.chord_ring.specs.declared.ring_step.RingDid.TheVariants as did
use Rattle.chord_ring.specs.declared.ring_fault.RingFault.TheVariants.{NoSuchNode, IdTaken, NotBetween, Stabilise, Candidate, Drop, Memory}
use Rattle.chord_ring.specs.Ring.{links_of, is_member}
use Rattle.chord_ring.specs.Steps.{Ring, candidate_of, gives_way, is_live}

-- two members, whose links have this property
abbrev pub OfTwo : Ring → ℕ → ℕ → (NodeLinks → NodeLinks → Type 0) → Type 0
OfTwo ring node other P =
    (links : NodeLinks) × (theirs : NodeLinks) × (links_of ring.members node ≡ Some links) × (links_of ring.members other ≡ Some theirs) × P links theirs

-- the links are this member's: the same node, listing as many successors at most
abbrev pub AreOwn : Ring → ℕ → NodeLinks → Type 0
AreOwn ring node after = (links : NodeLinks) × (links_of ring.members node ≡ Some links) × (after.me ≡ links.me) × (after.r ≡ links.r)

-- NoSuchNode: `pred` is no member. IdTaken: the identifier was used before. NotBetween: it is not
-- between `pred` and its first entry. Memory: none of these.
abbrev pub JoinRefused : Ring → ℕ → ℕ → RingFault → Type 0
JoinRefused ring id pred NoSuchNode = is_member ring.members pred ≡ false
JoinRefused ring id pred IdTaken = IsTrue (is_member ring.members pred) × Contains ring.ids id
JoinRefused ring id pred NotBetween =
    (links : NodeLinks) × (links_of ring.members pred ≡ Some links) × ¬ (Contains ring.ids id) × ¬ (IsBetween links.me.id.number id (first_entry links).id.number)
JoinRefused ring id pred Memory =
    (links : NodeLinks) × (links_of ring.members pred ≡ Some links) × ¬ (Contains ring.ids id) × IsBetween links.me.id.number id (first_entry links).id.number
JoinRefused ring id pred _ = ⊥

-- NoSuchNode: the node is no member, or the first entry never was one. HeadDead: the first entry
-- departed. NotHead: `head` is not the first entry.
abbrev pub StabiliseRefused : Ring → ℕ → ℕ → RingFault → Type 0
StabiliseRefused ring node head NoSuchNode = (is_member ring.members node ≡ false) ⊎ (length ring.members ≤ head)
StabiliseRefused ring node head (Stabilise HeadDead) = IsTrue (is_member ring.members node) × (head < length ring.members) × (is_member ring.members head ≡ false)
StabiliseRefused ring node head (Stabilise NotHead) = OfTwo ring node head (λ links theirs. first_entry links ≢ theirs.me)
StabiliseRefused ring node head _ = ⊥

-- NoSuchNode: the node is no member, or the candidate never was one. Dead: the candidate departed.
-- NotCloser: it is not between the node and its first entry.
abbrev pub CandidateRefused : Ring → ℕ → ℕ → RingFault → Type 0
CandidateRefused ring node peer NoSuchNode = (is_member ring.members node ≡ false) ⊎ (length ring.members ≤ peer)
CandidateRefused ring node peer (Candidate Dead) = IsTrue (is_member ring.members node) × (peer < length ring.members) × (is_member ring.members peer ≡ false)
CandidateRefused ring node peer (Candidate NotCloser) =
    OfTwo ring node peer (λ links theirs. ¬ (IsBetween links.me.id.number theirs.me.id.number (first_entry links).id.number))
CandidateRefused ring node peer _ = ⊥

-- NoSuchNode: the node is no member. HeadLive: its
-- first entry is live. Empty: it has no other entry.
abbrev pub DropRefused : Ring → ℕ → RingFault → Type 0
DropRefused ring node NoSuchNode = is_member ring.members node ≡ false
DropRefused ring node (Drop HeadLive) =
    (links : NodeLinks) × (links_of ring.members node ≡ Some links) × IsTrue (is_member ring.members (first_entry links).number)
DropRefused ring node (Drop Empty) =
    (links : NodeLinks) × (links_of ring.members node ≡ Some links) × (is_member ring.members (first_entry links).number ≡ false) × (length links.entries ≤ 1)
DropRefused ring node _ = ⊥

-- NoSuchNode: the node or the notifier is no member.
abbrev pub RectifyRefused : Ring → ℕ → ℕ → RingFault → Type 0
RectifyRefused ring node notifier NoSuchNode = (is_member ring.members node ≡ false) ⊎ (is_member ring.members notifier ≡ false)
RectifyRefused ring node notifier _ = ⊥

-- why a step is refused
abbrev pub Refused : Ring → RingStep → RingFault → Type 0
Refused ring (step.Join id pred) fault = JoinRefused ring id.number pred fault
Refused ring (step.Stabilise node head) fault = StabiliseRefused ring node head fault
Refused ring (step.Candidate node peer) fault = CandidateRefused ring node peer fault
Refused ring (step.DropDead node) fault = DropRefused ring node fault
Refused ring (step.Rectify node notifier) fault = RectifyRefused ring node notifier fault

-- the candidate that the member learns from its first entry
abbrev pub IsCandidate : Ring → ℕ → ℕ → Option Peer → Type 0
IsCandidate ring node head candidate = OfTwo ring node head (λ links theirs. candidate ≡ candidate_of links theirs)

-- whether the member's predecessor gave way to the notifier
abbrev pub GaveWay : Ring → ℕ → ℕ → Bool → Type 0
GaveWay ring node notifier gave =
    OfTwo ring node notifier (λ links theirs. gave ≡ gives_way links.me theirs.me (is_live ring.members links.predecessor) links.predecessor)

-- the answer of a step
abbrev pub Did : Ring → RingStep → RingDid → Type 0
Did ring (step.Join id pred) (did.Joined node) = node ≡ length ring.ids
Did ring (step.Stabilise node head) (did.Candidate candidate) = IsCandidate ring node head candidate
Did ring (step.Candidate node peer) did.Done = Unit {0}
Did ring (step.DropDead node) did.Done = Unit {0}
Did ring (step.Rectify node notifier) did.Done = Unit {0}
Did ring step answer = ⊥
