-- A node of the program as a node of the definitions.
use Rattle.std.specs.Prelude.{ℕ, Option, None, Some, List, [], length, map}
use Rattle.chord_ident.specs.declared.span.Span.{Span}
use Rattle.chord_map.specs.declared.pair.Pair.{Pair}
use Rattle.chord_handover.specs.Handover.{Item}
use Rattle.chord_segment.specs.Segment.{Segment, RoomySegment}

-- the segments without their room
abbrev pub segments_of : List RoomySegment → List Segment
segments_of held = map (λ (segment : RoomySegment). segment.segment) held

-- the receiver, the number and the span of an item of the outbox, if there is one
abbrev pub item_view : Option Item → Option (ℕ × ℕ × Span)
item_view None = None
item_view (Some item) = Some (item.to, item.number, item.segment.span)

-- how many pairs an item of the outbox has, if there is one
abbrev pub pairs_of_item : Option Item → Option ℕ
pairs_of_item None = None
pairs_of_item (Some item) = Some (length item.pairs)

-- a held segment of the program as one of the definitions
abbrev pub segment_shown : Option RoomySegment → Option Segment
segment_shown None = None
segment_shown (Some segment) = Some segment.segment

-- the span of a held segment, if there is one
abbrev pub span_of : Option Segment → Option Span
span_of None = None
span_of (Some segment) = Some segment.span

module _ {S : Type 0} where
  -- the pairs of a store; none if there is no store
  abbrev pub entries_in : (S → List Pair) → Option S → List Pair
  entries_in content None = []
  entries_in content (Some store) = content store

  -- the limit of a store; 0 if there is no store
  abbrev pub limit_in : (S → ℕ) → Option S → ℕ
  limit_in limit None = 0
  limit_in limit (Some store) = limit store
