-- The pages in which the pairs of a node are read, in order of identifier.
use Rattle.std.specs.Prelude.{◌≡◌, ◌⊎◌, ◌≤◌, ◌+◌, ◌-◌, ◌%◌, ◌^◌, ◌==◌, ℕ, nat_le, if◌then◌else◌, true, Option, None, Some, List, length, map}
use Rattle.std.specs.declared.cmp.Ordering.{Ordering}
use Rattle.std.specs.Ordering.{nat_cmp, ordering_then}
use Rattle.std.specs.List.Sorted.{IsPermutation, IsSorted}
use Rattle.chord_ident.specs.Circle.{cuts, key_id}
use Rattle.chord_ident.specs.declared.id.Id.{Id}
use Rattle.chord_ident.specs.declared.span.Span.{Span}
use Rattle.chord_map.specs.declared.pair.Pair.{Pair}
use Rattle.chord_map.specs.Map.{pair_cmp}
use Rattle.chord_node.specs.declared.pages.PairsPage.{PairsPage}
use Rattle.chord_node.specs.declared.pages.PlacedPair.{PlacedPair}
use Rattle.chord_model.specs.Node.{Node, segment_with}
use Rattle.chord_segment.specs.Segment.{Segment}
use Rattle.chord_store.specs.Cut.{CutsLeaveFewer, part_up_to}
use Rattle.chord_store.specs.Inside.{pairs_inside}

-- the greatest identifier
abbrev pub last_id : Id
last_id = record { number = 2 ^ 128 - 1 }

-- a pair with its key's identifier
abbrev pub placed : Pair → PlacedPair
placed pair = record { id = record { number = key_id pair.key }; pair = pair }

-- pairs are in the order of their identifiers, then of their keys' and of their values' bytes
abbrev pub placed_cmp : PlacedPair → PlacedPair → Ordering
placed_cmp a b = ordering_then (nat_cmp a.id.number b.id.number) (pair_cmp a.pair b.pair)

-- these pairs with their identifiers, each once and in order
pub record AreListed (pairs : List Pair) (listed : List PlacedPair) : Type 0 where
  pub same : IsPermutation (map placed pairs) listed
  pub rises : IsSorted placed_cmp listed

-- what is read from an identifier on in a span: up to its end, or to the greatest identifier where
-- the span goes on behind that
abbrev pub rest_from : Id → Span → Span
rest_from first span = record {
  after = record { number = (first.number + (2 ^ 128 - 1)) % 2 ^ 128 };
  upto = if nat_le first.number span.upto.number then span.upto else last_id;
}

-- A page of the span ends at the first identifier that makes it one of at least `limit` pairs, so
-- all pairs of an identifier are in one page; or at the end of the span, where none before it does.
abbrev pub EndsAt : Span → ℕ → List Pair → Id → Type 0
EndsAt span limit pairs end =
    ((cuts span end ≡ true) × (limit ≤ length (pairs_inside (part_up_to span end) pairs)) × CutsLeaveFewer (part_up_to span end) limit pairs)
    ⊎ ((end ≡ span.upto) × CutsLeaveFewer span limit pairs)

-- the identifier behind which reading goes on
abbrev pub next_behind : Id → Option Id
next_behind end = if end.number == 2 ^ 128 - 1 then None else Some end

-- all pairs from the beginning of the span up to where the page ends, and no others
pub record IsPageOf (span : Span) (limit : ℕ) (pairs : List Pair) (page : PairsPage) : Type 0 where
  pub end : Id
  pub ends : EndsAt span limit pairs end
  pub told : AreListed (pairs_inside (part_up_to span end) pairs) page.pairs.items
  pub next : page.next ≡ next_behind end

-- the page of the node's pairs from this identifier on, if the node holds that
abbrev pub PairsFromIs : Id → ℕ → Node → Option PairsPage → Type 0
PairsFromIs first limit node None = segment_with first.number node.held ≡ None
PairsFromIs first limit node (Some page) =
    (segment : Segment) × (segment_with first.number node.held ≡ Some segment) × IsPageOf (rest_from first segment.span) limit node.entries page
