-- Where a span is cut by a number of pairs. Source: our own.
use Rattle.std.specs.Prelude.{◌≡◌, ◌⊎◌, ◌<◌, ◌≤◌, ◌^◌, ℕ, true, List, filter, length, nat_le}
use Rattle.chord_ident.specs.Circle.{cuts, key_id, walk}
use Rattle.chord_ident.specs.declared.id.Id.{Id}
use Rattle.chord_ident.specs.declared.span.Span.{Span}
use Rattle.chord_map.specs.declared.pair.Pair.{Pair}
use Rattle.chord_store.specs.Inside.{pairs_inside}

-- the part of the span from its start up to here
abbrev pub part_up_to : Span → Id → Span
part_up_to span at = record { after = span.after; upto = at }

-- the pairs whose keys lie at most `steps` steps after the start
abbrev pub pairs_within : ℕ → ℕ → List Pair → List Pair
pairs_within after steps pairs = filter (λ (pair : Pair). nat_le (walk after (key_id pair.key)) steps) pairs

-- fewer steps meet fewer than n pairs
abbrev pub AreFewest : ℕ → ℕ → ℕ → List Pair → Type 0
AreFewest after steps n pairs = (fewer : ℕ) → fewer < steps → length (pairs_within after fewer pairs) < n

-- each cut of the span leaves fewer than n pairs before it
abbrev pub CutsLeaveFewer : Span → ℕ → List Pair → Type 0
CutsLeaveFewer span n pairs = (at : Id) → at.number < 2 ^ 128 → cuts span at ≡ true → length (pairs_inside (part_up_to span at) pairs) < n

-- a part of a span has at most `most` pairs, or it is the shortest that has n
abbrev pub IsShort : Span → ℕ → ℕ → List Pair → Type 0
IsShort part n most pairs = (length (pairs_inside part pairs) ≤ most) ⊎ CutsLeaveFewer part n pairs
