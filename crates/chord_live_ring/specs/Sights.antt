-- What an operator sees of a node.
use Rattle.std.specs.Prelude.{◌≡◌, ℕ, ◌<◌, ◌-◌, ◌^◌, min, Bool, true, false, Option, None, Some, is_some, List, length, map, take, slice_get}
use Rattle.std.specs.List.{count_by}
use Rattle.chord_ident.specs.declared.id.Id.{Id}
use Rattle.chord_links.specs.declared.fingers.Fingers.{Fingers}
use Rattle.chord_links.specs.declared.peer.Peer.{Peer}
use Rattle.chord_handover.specs.Handover.{Item}
use Rattle.chord_ident.specs.Circle.{in_span}
use Rattle.chord_live_ring.specs.declared.deed.MessageKind.{MessageKind}
use Rattle.chord_sight.specs.declared.counts.NodeCounts.{NodeCounts}
use Rattle.chord_sight.specs.declared.node.NodeSight.{NodeSight}
use Rattle.chord_sight.specs.declared.parts.OutboxSight.{OutboxSight}
use Rattle.chord_sight.specs.declared.parts.SegmentSight.{SegmentSight}
use Rattle.chord_live_ring.specs.Deeds.{counted_if, deed_of, kind_of}
use Rattle.chord_model.specs.Node.{Node, segment_with}
use Rattle.chord_model.specs.declared.holder.Holder.{Holder}
use Rattle.chord_model.specs.declared.holder.Holder.TheVariants as holder
use Rattle.chord_model.specs.declared.message.Message.{Message}
use Rattle.chord_model.specs.declared.phase.Phase.{Phase as NodePhase}
use Rattle.chord_model.specs.declared.phase.Phase.TheVariants as phase
use Rattle.chord_node.specs.declared.pages.PairsPage.{PairsPage}
use Rattle.chord_node.specs.Pages.{PairsFromIs}
use Rattle.chord_segment.specs.Segment.{Segment}
use Rattle.chord_sight.specs.declared.phase.Phase.{Phase}
use Rattle.chord_sight.specs.declared.phase.Phase.TheVariants as seen
use Rattle.chord_live_ring.specs.Seats.{is_in}
use Rattle.chord_table.specs.Shown.{NodeShown}
use Rattle.chord_table.specs.Views.{NodeSight as NodeShows}

-- a node with its seat: the node, whether it crashed and the messages that its seat shows, and what
-- it did
pub record Seated : Type 0 where
  pub node : Node
  pub crashed : Bool
  pub messages : List Message
  pub counts : NodeCounts

-- whether the node is a member of the ring
abbrev pub is_member : Seated → Bool
is_member seated = is_in seated.crashed seated.node.phase

-- what its seat shows
abbrev pub shown_of : Seated → NodeShows
shown_of seated = record { node = seated.node; crashed = seated.crashed; messages = seated.messages }

-- the kind of a message, if there is one
abbrev pub kind_in : Option Message → Option MessageKind
kind_in None = None
kind_in (Some message) = Some (kind_of message)

-- the counts of a node after it took a message in, sent this message, if any, and became `new`
abbrev pub counts_after : Message → Option Message → Node → Node → NodeCounts → NodeCounts
counts_after came sent old new counts = counted_if (deed_of (kind_of came) (kind_in sent) (length old.held) (length new.held)) counts

-- a number, but at most 2^64 - 1
abbrev pub capped : ℕ → ℕ
capped n = min n (2 ^ 64 - 1)

-- a held segment: its span, and how many replies it keeps
abbrev pub segment_sight : Segment → SegmentSight
segment_sight segment = record { span = segment.span; kept = capped (length segment.kept) }

-- an item of the outbox
abbrev pub outbox_sight : Item → OutboxSight
outbox_sight item = record { to = item.to; number = item.number; span = item.segment.span; pairs = length item.pairs }

-- the phase of a node that acts or does not, and crashed or not: one that crashed and acts is being
-- rescued
abbrev pub phase_seen : Bool → Bool → NodePhase → Phase
phase_seen false crashed before = seen.Crashed
phase_seen true crashed phase.Gone = seen.Gone
phase_seen true true phase.Staying = seen.Rescuing
phase_seen true true phase.Leaving = seen.Rescuing
phase_seen true false phase.Staying = seen.Staying
phase_seen true false phase.Leaving = seen.Leaving

-- the number of another node, if one is known
abbrev pub number_in : Option Peer → Option ℕ
number_in None = None
number_in (Some peer) = Some peer.number

abbrev pub numbers_of : List Peer → List ℕ
numbers_of peers = map (λ (peer : Peer). peer.number) peers

-- how many of the 128 fingers are known
abbrev pub known_fingers : Fingers → ℕ
known_fingers fingers = count_by is_some (take 128 fingers.nodes)

-- what is seen of a node, with its vectors as lists
pub record NodeLook : Type 0 where
  pub number : ℕ
  pub id : Id
  pub phase : Phase
  pub predecessor : Option ℕ
  pub successors : List ℕ
  pub fingers : ℕ
  pub segments : List SegmentSight
  pub pairs : ℕ
  pub outbox : List OutboxSight
  pub counts : NodeCounts

-- what a sight tells
abbrev pub look_in : NodeSight → NodeLook
look_in sight = record {
  number = sight.number;
  id = sight.id;
  phase = sight.phase;
  predecessor = sight.predecessor;
  successors = sight.successors.items;
  fingers = sight.fingers;
  segments = sight.segments.items;
  pairs = sight.pairs;
  outbox = sight.outbox.items;
  counts = sight.counts;
}

-- the sight of a node: all its segments, and all items of its outbox, in order
abbrev pub sight_of : Phase → Node → NodeCounts → NodeLook
sight_of seen node counts = record {
  number = node.number;
  id = node.links.me.id;
  phase = seen;
  predecessor = number_in node.links.predecessor;
  successors = numbers_of node.links.entries;
  fingers = known_fingers node.links.fingers;
  segments = map segment_sight node.held;
  pairs = length node.entries;
  outbox = map outbox_sight node.outbox;
  counts = counts;
}

-- the same of a node with its seat, which acts or does not
abbrev pub seated_look : Bool → Seated → NodeLook
seated_look acts seated = sight_of (phase_seen acts seated.crashed seated.node.phase) seated.node seated.counts

-- the sight of what is in a slot with this node, which acts or does not
abbrev pub SightIs : Bool → Seated → Option NodeSight → Type 0
SightIs acts seated None = ⊥
SightIs acts seated (Some sight) = look_in sight ≡ seated_look acts seated

-- some reachable world, of which the theorem holds, has a node of this number that looks so
abbrev pub IsSightOf : ℕ → NodeSight → Type 0
IsSightOf number sight =
    (seated : Seated) × (acts : Bool) × NodeShown (shown_of seated) × (seated.node.number ≡ number) × (look_in sight ≡ seated_look acts seated)

-- some reachable world, of which the theorem holds, has a node of this number whose pairs from this
-- identifier on are those of the page
abbrev pub IsPageShown : ℕ → Id → ℕ → PairsPage → Type 0
IsPageShown number first limit page =
    (seated : Seated) × NodeShown (shown_of seated) × (seated.node.number ≡ number) × PairsFromIs first limit seated.node (Some page)

-- the items of an outbox before this index do not hand x over
abbrev pub NoneGives : ℕ → List Item → ℕ → Type 0
NoneGives x outbox place = (k : ℕ) → k < place → (item : Item) → slice_get outbox k ≡ Some item → in_span item.segment.span x ≡ false

-- a node's first handover of x, if its outbox has one
abbrev pub GivesIs : ℕ → Node → Option Holder → Type 0
GivesIs x node None = NoneGives x node.outbox (length node.outbox)
GivesIs x node (Some (holder.UnderWay from to number)) =
    (place : ℕ) × (item : Item) × (slice_get node.outbox place ≡ Some item) × (in_span item.segment.span x ≡ true) × NoneGives x node.outbox place
    × (from ≡ node.number) × (to ≡ item.to) × (number ≡ item.number)
GivesIs x node (Some (holder.Node number)) = ⊥

-- the node if it holds x, else its first handover of x, if its outbox has one
abbrev pub HoldingIs : ℕ → Node → Option Holder → Type 0
HoldingIs x node (Some (holder.Node number)) = (is_some (segment_with x node.held) ≡ true) × (number ≡ node.number)
HoldingIs x node other = (is_some (segment_with x node.held) ≡ false) × GivesIs x node other
