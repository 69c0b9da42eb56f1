-- How an operator is told of the pairs of a ring. Source: our own.
use Rattle.std.specs.Prelude.{◌≡◌, ◌⊎◌, ◌+◌, ◌-◌, ◌%◌, ◌^◌, ◌&&◌, ℕ, nat_le, nat_lt, max, map, slice_get, Bool, true, false, Option, Some, None, List, [], if◌then◌else◌}
use Rattle.chord_app_operator.specs.declared.operator.pairs.Pair.{Pair}
use Rattle.chord_app_operator.specs.declared.operator.pairs.PairsPage.{PairsPage}
use Rattle.chord_app_operator.specs.declared.operator.pairs.PageState.{PageState}
use Rattle.chord_app_operator.specs.declared.operator.pairs.PageState.TheVariants.{Held, UnderWay, Lost}
use Rattle.chord_app_operator.specs.declared.request.calls.PairsRequest.{PairsRequest}
use Rattle.chord_ident.specs.Circle.{in_span}
use Rattle.chord_ident.specs.declared.id.Id.{Id}
use Rattle.chord_ident.specs.declared.span.Span.{Span}
use Rattle.chord_live_ring.specs.Sights.{IsPageShown, IsSightOf}
use Rattle.chord_model.specs.declared.phase.Phase.{Phase as NodePhase}
use Rattle.chord_sight.specs.declared.node.NodeSight.{NodeSight}
use Rattle.chord_sight.specs.declared.parts.OutboxSight.{OutboxSight}
use Rattle.chord_sight.specs.declared.parts.SegmentSight.{SegmentSight}
use Rattle.chord_sight.specs.declared.phase.Phase.{Phase}
use Rattle.chord_sight.specs.declared.phase.Phase.TheVariants.{Crashed}
use Rattle.chord_node.specs.declared.pages.PairsPage.{PairsPage as NodePage}
use Rattle.chord_node.specs.declared.pages.PlacedPair.{PlacedPair}

-- a pair by its bytes
pub record PairLook : Type 0 where
  pub key : List ℕ
  pub value : List ℕ

abbrev pub operator_look : Pair → PairLook
operator_look pair = record { key = pair.key.items; value = pair.value.items }

abbrev pub placed_look : PlacedPair → PairLook
placed_look placed = record { key = placed.pair.key; value = placed.pair.value }

-- all pairs of a node's page are shown, in its order
pub record ShowsPage (page : NodePage) (shown : PairsPage) : Type 0 where
  pub pairs : map operator_look shown.pairs.items ≡ map placed_look page.pairs.items
  pub next : shown.next ≡ page.next
  pub state : shown.state ≡ Held

-- some reachable world, of which the theorem holds, has a node that holds the identifier and has
-- these pairs from there on
pub record IsReadAt (first : Id) (limit : ℕ) (shown : PairsPage) : Type 0 where
  pub number : ℕ
  pub page : NodePage
  pub told : IsPageShown number first limit page
  pub shows : ShowsPage page shown

-- the identifier from which on pairs are read: behind the greatest one comes 0
abbrev pub first_behind : Option Id → Id
first_behind None = record { number = 0 }
first_behind (Some after) = record { number = (after.number + 1) % 2 ^ 128 }

abbrev pub first_of : PairsRequest → Id
first_of request = first_behind request.after

-- the identifier to go on behind where nobody answers for what is left of a span
abbrev pub rest_behind : Id → Span → Option Id
rest_behind first span = if nat_le first.number span.upto.number && nat_lt span.upto.number (2 ^ 128 - 1) then Some span.upto else None

-- one of these has the span, and the span the identifier
abbrev pub segment_span : SegmentSight → Span
segment_span segment = segment.span

abbrev pub item_span : OutboxSight → Span
item_span item = item.span

abbrev pub HasSpan : {X : Type 0} → (X → Span) → List X → Id → Span → Type 0
HasSpan {X = X} span_of items first span =
    (place : ℕ) × (item : X) × (slice_get items place ≡ Some item) × (span_of item ≡ span) × (in_span span first.number ≡ true)

-- whether a handover will not end: its giver crashed, or its receiver, which has no phase then
abbrev pub is_stuck : Phase → Option NodePhase → Bool
is_stuck Crashed receiver = true
is_stuck giver None = true
is_stuck giver (Some phase) = false

-- a node that crashed has a segment with the span, or a node gives a segment with it away
abbrev pub IsLostBy : NodeSight → Id → Span → Type 0
IsLostBy sight first span =
    ((sight.phase ≡ Crashed) × HasSpan segment_span sight.segments.items first span) ⊎ HasSpan item_span sight.outbox.items first span

-- some reachable world, of which the theorem holds, has such a node
abbrev pub IsLost : Id → Span → Type 0
IsLost first span = (number : ℕ) × (sight : NodeSight) × IsSightOf number sight × IsLostBy sight first span

-- the identifier is lost: the page goes on behind what is left of the span that was
abbrev pub GoesOnBehind : Id → Option Id → Type 0
GoesOnBehind first next = (span : Span) × IsLost first span × (next ≡ rest_behind first span)

-- it is under way: the page goes on where it was asked for
abbrev pub before : Id → Id
before first = record { number = (first.number + (2 ^ 128 - 1)) % 2 ^ 128 }

-- a page without pairs has its reason
abbrev pub GoesOnIn : PageState → Id → Option Id → Type 0
GoesOnIn Held first next = ⊥
GoesOnIn UnderWay first next = next ≡ Some (before first)
GoesOnIn Lost first next = GoesOnBehind first next

abbrev pub IsEmptyAt : Id → PairsPage → Type 0
IsEmptyAt first shown = (shown.pairs.items ≡ []) × GoesOnIn shown.state first shown.next

-- the pairs of one node from the identifier on, or none, with the reason
abbrev pub IsRead : PairsRequest → PairsPage → Type 0
IsRead request shown = IsEmptyAt (first_of request) shown ⊎ IsReadAt (first_of request) (max request.limit 1) shown
