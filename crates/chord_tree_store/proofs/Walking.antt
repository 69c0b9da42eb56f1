-- How far a walk over the shards has come that gathers what lies in a span.
use Rattle.std.proofs.Common.{◌≡◌, ◌≤◌, ◌<◌, ◌+◌, ◌^◌, ℕ, zero, suc, true, false, cond, eqb, List, [], ◌∷◌, ◌++◌, length, length-append, take, slice_index_or, append_assoc, refl, sym, ap, ◌∙◌, subst, arith}
use Rattle.std.specs.List.{IsDistinct}
use Rattle.std.specs.Map.{keys_of}
use Rattle.std.proofs.lemmas.List.{append-nil}
use Rattle.chord_ident.specs.Circle.{in_span}
use Rattle.chord_ident.specs.declared.span.Span.{Span}
use Rattle.chord_map.specs.declared.pair.Pair.{Pair}
use Rattle.chord_map.proofs.MapLemmas.{RisingPairs}
use Rattle.chord_tree_store.specs.declared.slot.Slot.{Slot}
use Rattle.chord_tree_store.specs.declared.shard.Shard.{Shard}
use Rattle.chord_tree_store.specs.Copied.{AreCopies}
use Rattle.chord_store.specs.Inside.{pairs_inside}
use Rattle.chord_tree_store.specs.Shelf.{entries_of, InPlace, slots_of}
use Rattle.chord_tree_store.specs.Slot.{pairs_of}
use Rattle.chord_tree_store.specs.Slots.{ArePlaced, entries_inside, pairs_in, pairs_of_slots}
use Rattle.chord_tree_store.proofs.Dropped.{split_length}
use Rattle.chord_tree_store.proofs.Gathered.{all_of, copies_length, entries-more, inside_all, inside_le, of_front, rises-in}
use Rattle.chord_store.proofs.Inside.{rises_inside}
use Rattle.chord_store.proofs.Memory.{none_behind}
use Rattle.chord_tree_store.proofs.Touched.{distinct-more}

inside-append : (span : Span) (xs ys : List (ℕ × Slot)) → entries_inside span (xs ++ ys) ≡ entries_inside span xs ++ entries_inside span ys
inside-append span [] ys = refl
inside-append span (x ∷ xs) ys = elim (in_span span x.0) as (λ b. cond b (x ∷ entries_inside span (xs ++ ys)) (entries_inside span (xs ++ ys)) ≡ cond b (x ∷ entries_inside span xs) (entries_inside span xs) ++ entries_inside span ys) [
  | true ↦ ap (λ (es : List (ℕ × Slot)). x ∷ es) (inside-append span xs ys)
  | false ↦ inside-append span xs ys
]

slots-append : (xs ys : List (ℕ × Slot)) → pairs_of_slots (xs ++ ys) ≡ pairs_of_slots xs ++ pairs_of_slots ys
slots-append [] ys = refl
slots-append (x ∷ xs) ys =
    ap (λ (ps : List Pair). pairs_of x.1 ++ ps) (slots-append xs ys)
    ∙ sym (append_assoc (pairs_of x.1) (pairs_of_slots xs) (pairs_of_slots ys))

-- the pairs in the span of the first shards
abbrev pub pairs_before : Span → List Shard → ℕ → List Pair
pairs_before span shards i = pairs_of_slots (entries_inside span (entries_of (take i shards)))

inside-more : (span : Span) (shards : List Shard) (i : ℕ) (d : Shard) → i < length shards
    → entries_inside span (entries_of (take (i + 1) shards)) ≡ entries_inside span (entries_of (take i shards)) ++ entries_inside span (slice_index_or shards i d).slots.entries
inside-more span shards i d within =
    ap (entries_inside span) (entries-more shards i d within) ∙ inside-append span (entries_of (take i shards)) (slice_index_or shards i d).slots.entries

-- one shard more
pub before-more : (span : Span) (shards : List Shard) (i : ℕ) (d : Shard) → i < length shards
    → pairs_before span shards (i + 1) ≡ pairs_before span shards i ++ pairs_of_slots (entries_inside span (slice_index_or shards i d).slots.entries)
before-more span shards i d within =
    ap pairs_of_slots (inside-more span shards i d within)
    ∙ slots-append (entries_inside span (entries_of (take i shards))) (entries_inside span (slice_index_or shards i d).slots.entries)

pub before_sum : (span : Span) (shards : List Shard) (i : ℕ) (d : Shard) → i < length shards
    → length (pairs_before span shards (i + 1)) ≡ length (pairs_before span shards i) + length (pairs_of_slots (entries_inside span (slice_index_or shards i d).slots.entries))
before_sum span shards i d within =
    ap (λ (ps : List Pair). length ps) (before-more span shards i d within)
    ∙ length-append (pairs_before span shards i) (pairs_of_slots (entries_inside span (slice_index_or shards i d).slots.entries))

pub before_idle : (span : Span) (shards : List Shard) (i : ℕ) → i < length shards → ((d : Shard) → entries_inside span (slice_index_or shards i d).slots.entries ≡ []) → pairs_before span shards (i + 1) ≡ pairs_before span shards i
before_idle span [] i within none = absurd (omega (arith, within))
before_idle span (s ∷ rest) i within none =
    before-more span (s ∷ rest) i s within
    ∙ ap (λ (es : List (ℕ × Slot)). pairs_before span (s ∷ rest) i ++ pairs_of_slots es) (none s)
    ∙ append-nil (pairs_before span (s ∷ rest) i)

pub once_more : (shards : List Shard) → InPlace shards → (i : ℕ) → i < length shards → IsDistinct eqb (keys_of (entries_of (take i shards))) → ((d : Shard) → IsDistinct eqb (keys_of (slice_index_or shards i d).slots.entries))
    → IsDistinct eqb (keys_of (entries_of (take (i + 1) shards)))
once_more [] ok i within front own = absurd (omega (arith, within))
once_more (s ∷ rest) ok i within front own = distinct-more (s ∷ rest) ok i s within front (own s)

module _ (span : Span) (shards : List Shard) (placed : ArePlaced (slots_of shards)) where
  abbrev pairs : List Pair
  pairs = pairs_in (slots_of shards)

  rises : RisingPairs (pairs_inside span pairs)
  rises = rises_inside span pairs (rises-in (slots_of shards))

  -- no more than the map has
  pub before_le : (i : ℕ) → IsDistinct eqb (keys_of (entries_of (take i shards))) → length (pairs_before span shards i) ≤ length (pairs_inside span (pairs_in (slots_of shards)))
  before_le i once = inside_le (slots_of shards) placed (entries_of (take i shards)) once span (of_front shards i) rises

  pub before_fits : (i : ℕ) → IsDistinct eqb (keys_of (entries_of (take i shards))) → length (pairs_in (slots_of shards)) < 2 ^ 64 → length (pairs_before span shards i) < 2 ^ 64
  before_fits i once few = let le = before_le i once in let split = split_length span pairs in omega (arith, le, split, few)

  -- where the map has nothing in the span, no shard has
  pub none_before : (i : ℕ) → i < length shards → IsDistinct eqb (keys_of (entries_of (take (i + 1) shards))) → pairs_inside span (pairs_in (slots_of shards)) ≡ [] → (d : Shard)
      → pairs_of_slots (entries_inside span (slice_index_or shards i d).slots.entries) ≡ []
  none_before i within once none d =
      let le = before_le (i + 1) once in
      let zero_pairs : length (pairs_inside span pairs) ≡ 0 = ap (λ (ps : List Pair). length ps) none in
      let empty = no_pairs (pairs_before span shards (i + 1)) (omega (arith, le, zero_pairs)) in
      none_behind (pairs_before span shards i) (pairs_of_slots (entries_inside span (slice_index_or shards i d).slots.entries)) (sym (before-more span shards i d within) ∙ empty)
    where
      no_pairs : (ps : List Pair) → length ps ≡ 0 → ps ≡ []
      no_pairs [] none = refl
      no_pairs (p ∷ ps) none = absurd (omega (arith, none))

  -- all of them are the map's pairs in the span
  pub before_all : (i : ℕ) → length shards ≤ i → IsDistinct eqb (keys_of (entries_of (take i shards))) → AreCopies (pairs_inside span (pairs_in (slots_of shards))) (pairs_before span shards i)
  before_all i done once =
      let all : take i shards ≡ shards = take_whole i shards done in
      subst (λ (xs : List Shard). AreCopies (pairs_inside span pairs) (pairs_of_slots (entries_inside span (entries_of xs)))) (sym all)
      (inside_all (slots_of shards) placed (entries_of shards) (subst (λ (xs : List Shard). IsDistinct eqb (keys_of (entries_of xs))) all once) span (all_of shards))
    where
      take_whole : (i : ℕ) (xs : List Shard) → length xs ≤ i → take i xs ≡ xs
      take_whole zero [] done = refl
      take_whole zero (x ∷ xs) done = absurd (omega (arith, done))
      take_whole (suc i) [] done = refl
      take_whole (suc i) (x ∷ xs) done = ap (λ (ys : List Shard). x ∷ ys) (take_whole i xs (omega (arith, done)))

  pub before_count : (i : ℕ) → length shards ≤ i → IsDistinct eqb (keys_of (entries_of (take i shards))) → length (pairs_before span shards i) ≡ length (pairs_inside span (pairs_in (slots_of shards)))
  before_count i done once = copies_length (pairs_inside span pairs) (pairs_before span shards i) rises (before_all i done once)
