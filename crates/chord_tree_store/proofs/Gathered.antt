-- What is gathered from slots by identifier, in any order of the slots.
use Rattle.std.proofs.Common.{◌≡◌, ◌≤◌, ◌<◌, ◌+◌, ℕ, Bool, true, false, cond, eqb, ◌||◌, ◌&&◌, T, is_lt, is_eq, Ordering, Less, Equal, Greater, List, [], ◌∷◌, ◌++◌, length, take, drop, slice_index_or, Option, None, Some, append_assoc, refl, sym, ap, ◌∙◌, subst, arith, inl, inr, ⊎_elim, nat_cmp}
use Rattle.std.specs.Cmp.{IsEquivalence, nat_eq_equiv}
use Rattle.std.specs.FinMap.{FinMap, entries, entries_sorted, get, get-entries, find}
use Rattle.std.specs.FinMap.Entries.{is_sorted, below_all}
use Rattle.std.specs.List.{AllByRecursion, IsDistinct}
use Rattle.std.specs.Map.{lookup, keys_of}
use Rattle.std.proofs.lemmas.Bool.{true≢false, and_parts}
use Rattle.std.proofs.lemmas.List.{take_more, append-nil, take-append-drop}
use Rattle.std.proofs.lemmas.List.Folds.{list_any-append}
use Rattle.std.proofs.lemmas.Map.Entries.{lookup-filter-keys}
use Rattle.std.proofs.lemmas.Map.Made.{IsDistinct-keys_filter, length-le_from_is_member}
use Rattle.std.proofs.lemmas.Map.Views.{lookup-from_Contains}
use Rattle.chord_ident.specs.Circle.{in_span, key_id}
use Rattle.chord_ident.specs.declared.span.Span.{Span}
use Rattle.chord_map.specs.declared.pair.Pair.{Pair}
use Rattle.chord_map.specs.Map.{pair_cmp, same_pair, has_pair}
use Rattle.chord_map.proofs.Equal.{eqb_same, eqb_is}
use Rattle.chord_map.proofs.Lists.{Has, by_test, has_cases, has_filter, contains_has, less_apart}
use Rattle.chord_map.proofs.MapLemmas.{RisingPairs, pairs_total, same_is, is_same, same_turned, has_filtered, has_put, of_has, rises_put}
use Rattle.chord_map.specs.Pairs.{IsRising}
use Rattle.chord_map.proofs.Ordered.{rises_from_rising, rising_from_rises}
use Rattle.chord_tree_store.specs.declared.slot.Slot.{Slot}
use Rattle.chord_tree_store.specs.declared.shard.Shard.{Shard}
use Rattle.chord_tree_store.specs.Copied.{AreCopies}
use Rattle.chord_store.specs.Inside.{pairs_inside}
use Rattle.chord_tree_store.specs.Shelf.{entries_of, or_find, slots_of}
use Rattle.chord_tree_store.specs.Slot.{pairs_at, pairs_of}
use Rattle.chord_tree_store.specs.Slots.{ArePlaced, IsSlot, entries_inside, pairs_in, pairs_of_slots}
use Rattle.chord_store.proofs.Puts.{lies_in}
use Rattle.chord_tree_store.proofs.Shelving.{eqb-cmp, find-append, get_of, same_test}

pub or_nothing : (b : Bool) → (b || false) ≡ b
or_nothing true = refl
or_nothing false = refl

-- lists in which no two are the same

all_from_each : {A : Type 0} (P : A → Type 0) (xs : List A) → ((x : A) → Has xs x → P x) → AllByRecursion P xs
all_from_each P [] each = tt
all_from_each P (x ∷ xs) each = (each x (inl refl), all_from_each P xs (λ y h. each y (inr h)))

each_from_all : {A : Type 0} (P : A → Type 0) (xs : List A) → AllByRecursion P xs → (x : A) → Has xs x → P x
each_from_all P [] all x h = absurd h
each_from_all P (y ∷ ys) all x (inl e) = subst P e all.0
each_from_all P (y ∷ ys) all x (inr h) = each_from_all P ys all.1 x h

pub distinct-append : {A : Type 0} (e : A → A → Bool) (xs ys : List A) → IsDistinct e xs → IsDistinct e ys → ((x y : A) → Has xs x → Has ys y → e x y ≡ false) → IsDistinct e (xs ++ ys)
unfolding IsDistinct
distinct-append e [] ys xs_once ys_once apart = ys_once
distinct-append e (x ∷ xs) ys xs_once ys_once apart = (
  all_from_each (λ y. e x y ≡ false) (xs ++ ys) (λ y h. ⊎_elim (λ a. each_from_all (λ y. e x y ≡ false) xs xs_once.0 y a) (λ b. apart x y (inl refl) b) (has_cases xs ys y h)),
  distinct-append e xs ys xs_once.1 ys_once (λ a b ha hb. apart a b (inr ha) hb),
)

pub distinct_rising : (ps : List Pair) → RisingPairs ps → IsDistinct same_pair ps
unfolding IsDistinct
distinct_rising [] rises = tt
distinct_rising (p ∷ ps) rises = (
  all_from_each (λ q. same_pair p q ≡ false) ps (λ q h. by_test (same_pair p q) (λ t. absurd (less_apart pair_cmp pairs_total p q (rises.0 q h) (same_is p q t))) (λ f. f)),
  distinct_rising ps rises.1,
)

same_pair_equiv : IsEquivalence same_pair
same_pair_equiv = record {
  refl = λ x. is_same x x refl;
  symm = same_turned;
  congr = λ x y z t. ap (λ (a : Pair). same_pair a z) (same_is x y t);
}

-- copies are as many as the pairs
pub copies_length : (pairs copies : List Pair) → RisingPairs pairs → AreCopies pairs copies → length copies ≡ length pairs
copies_length pairs copies rises are =
    let most = length-le_from_is_member same_pair_equiv copies pairs are.once (λ q t. sym (are.each q) ∙ t) in
    let least = length-le_from_is_member same_pair_equiv pairs copies (distinct_rising pairs rises) (λ q t. are.each q ∙ t) in
    omega (arith, most, least)

-- each slot has pairs of its identifier alone
abbrev pub AreKeyed : List (ℕ × Slot) → Type 0
AreKeyed es = (e : ℕ × Slot) → Has es e → IsSlot e.0 (pairs_of e.1)

none_first : (n first : ℕ) → n ≡ first → (es : List (ℕ × Slot)) → AllByRecursion (λ (y : ℕ). eqb first y ≡ false) (keys_of es) → lookup (eqb n) es ≡ None
none_first n first same [] apart = refl
none_first n first same (e ∷ es) apart =
    ap (λ b. cond b (Some e.1) (lookup (eqb n) es)) (ap (λ (k : ℕ). eqb k e.0) same ∙ apart.0) ∙ none_first n first same es apart.1

pub has-gathered : (es : List (ℕ × Slot)) → IsDistinct eqb (keys_of es) → AreKeyed es → (q : Pair) → has_pair q (pairs_of_slots es) ≡ has_pair q (pairs_at (lookup (eqb (key_id q.key)) es))
unfolding IsDistinct
has-gathered [] once keyed q = refl
has-gathered (e ∷ es) once keyed q =
    let id = key_id q.key in
    let here = has_pair q (pairs_of e.1) in
    list_any-append (same_pair q) (pairs_of e.1) (pairs_of_slots es)
    ∙ ap (λ b. here || b) (has-gathered es once.1 (λ x h. keyed x (inr h)) q)
    ∙ by_test (eqb id e.0)
    (λ t.
    ap (λ o. here || has_pair q (pairs_at o)) (none_first id e.0 (eqb_is id e.0 t) es once.0)
    ∙ or_nothing here
    ∙ ap (λ b. has_pair q (pairs_at (cond b (Some e.1) (lookup (eqb id) es)))) (sym t))
    (λ f.
    ap (λ b. b || has_pair q (pairs_at (lookup (eqb id) es)))
    (by_test here (λ t. absurd (true≢false (sym (eqb_same id e.0 ((keyed e (inl refl)).keyed q t)) ∙ f))) (λ d. d))
    ∙ ap (λ b. has_pair q (pairs_at (cond b (Some e.1) (lookup (eqb id) es)))) (sym f))

pub distinct-gathered : (es : List (ℕ × Slot)) → IsDistinct eqb (keys_of es) → AreKeyed es → IsDistinct same_pair (pairs_of_slots es)
unfolding IsDistinct
distinct-gathered [] once keyed = tt
distinct-gathered (e ∷ es) once keyed =
    let slot = keyed e (inl refl) in
    distinct-append same_pair (pairs_of e.1) (pairs_of_slots es)
    (distinct_rising (pairs_of e.1) (rises_from_rising pair_cmp (pairs_of e.1) slot.rises))
    (distinct-gathered es once.1 (λ x h. keyed x (inr h)))
    (λ p q hp hq.
    by_test (same_pair p q)
    (λ t.
    let id = slot.keyed q (of_has q (pairs_of e.1) (subst (Has (pairs_of e.1)) (same_is p q t) hp)) in
    let none = none_first (key_id q.key) e.0 id es once.0 in
    absurd (true≢false (sym (of_has q (pairs_of_slots es) hq) ∙ has-gathered es once.1 (λ x h. keyed x (inr h)) q ∙ ap (λ o. has_pair q (pairs_at o)) none)))
    (λ f. f))

-- those in a span

keyed-inside : (span : Span) (es : List (ℕ × Slot)) → AreKeyed es → AreKeyed (entries_inside span es)
keyed-inside span es keyed e h = keyed e (has_filter (λ (x : ℕ × Slot). in_span span x.0) es e h).0

distinct-inside : (span : Span) (es : List (ℕ × Slot)) → IsDistinct eqb (keys_of es) → IsDistinct eqb (keys_of (entries_inside span es))
distinct-inside span es once = IsDistinct-keys_filter eqb (λ (x : ℕ × Slot). in_span span x.0) es once

has_kept : (b : Bool) (q : Pair) (o : Option Slot) → has_pair q (pairs_at (cond b o None)) ≡ (b && has_pair q (pairs_at o))
has_kept true q o = refl
has_kept false q o = refl

pub has-inside : (span : Span) (es : List (ℕ × Slot)) → IsDistinct eqb (keys_of es) → AreKeyed es → (q : Pair)
    → has_pair q (pairs_of_slots (entries_inside span es)) ≡ (in_span span (key_id q.key) && has_pair q (pairs_at (lookup (eqb (key_id q.key)) es)))
has-inside span es once keyed q =
    let id = key_id q.key in
    has-gathered (entries_inside span es) (distinct-inside span es once) (keyed-inside span es keyed) q
    ∙ ap (λ o. has_pair q (pairs_at o)) (lookup-filter-keys (eqb id) (in_span span) (in_span span id) (λ k t. ap (in_span span) (sym (eqb_is id k t))) es)
    ∙ has_kept (in_span span id) q (lookup (eqb id) es)

-- the entries are entries of the map
abbrev pub AreOf : FinMap nat_cmp Slot → List (ℕ × Slot) → Type 0
AreOf m es = (q : ℕ) (s : Slot) → lookup (eqb q) es ≡ Some s → get m q ≡ Some s

keyed_of : (m : FinMap nat_cmp Slot) → ArePlaced m → (es : List (ℕ × Slot)) → IsDistinct eqb (keys_of es) → AreOf m es → AreKeyed es
keyed_of m placed es once of e h = placed e.0 e.1 (of e.0 e.1 (lookup-from_Contains nat_eq_equiv e.0 e.1 es once (contains_has es e h)))

-- the pairs of the map

or_less : (r : Ordering) → T (is_lt r) → r ≡ Less
or_less Less p = refl
or_less Equal p = absurd p
or_less Greater p = absurd p

T_both : (a b : Bool) → T (a && b) → T a × T b
T_both true b p = (tt, p)
T_both false b p = absurd p

all_apart : (n : ℕ) (es : List (ℕ × Slot)) → T (below_all nat_cmp n es) → AllByRecursion (λ (k : ℕ). eqb n k ≡ false) (keys_of es)
all_apart n [] p = tt
all_apart n (e ∷ es) p =
    let both = T_both (is_lt (nat_cmp n e.0)) (below_all nat_cmp n es) p in
    (eqb-cmp n e.0 ∙ ap is_eq (or_less (nat_cmp n e.0) both.0), all_apart n es both.1)

once_from : (es : List (ℕ × Slot)) → T (is_sorted nat_cmp es) → IsDistinct eqb (keys_of es)
unfolding IsDistinct
once_from [] p = tt
once_from (e ∷ es) p = let both = T_both (below_all nat_cmp e.0 es) (is_sorted nat_cmp es) p in (all_apart e.0 es both.0, once_from es both.1)

lookup-get : (m : FinMap nat_cmp Slot) (q : ℕ) → lookup (eqb q) (entries m) ≡ get m q
lookup-get m q = same_test q (entries m) ∙ sym (get-entries m q)

pub rises-in : (m : FinMap nat_cmp Slot) → RisingPairs (pairs_in m)
rises-in m = rises_put (pairs_of_slots (entries m)) [] tt

pub rising-in : (m : FinMap nat_cmp Slot) → IsRising (pairs_in m)
rising-in m = rising_from_rises pair_cmp (pairs_in m) (rises-in m)

pub has-in : (m : FinMap nat_cmp Slot) → ArePlaced m → (q : Pair) → has_pair q (pairs_in m) ≡ has_pair q (pairs_at (get m (key_id q.key)))
has-in m placed q =
    let once = once_from (entries m) (entries_sorted m) in
    has_put q (pairs_of_slots (entries m)) []
    ∙ or_nothing (has_pair q (pairs_of_slots (entries m)))
    ∙ has-gathered (entries m) once (keyed_of m placed (entries m) once (λ q s held. sym (lookup-get m q) ∙ held)) q
    ∙ ap (λ o. has_pair q (pairs_at o)) (lookup-get m (key_id q.key))

module _ (m : FinMap nat_cmp Slot) (placed : ArePlaced m) (es : List (ℕ × Slot)) (once : IsDistinct eqb (keys_of es)) (span : Span) where
  has_of_map : (q : Pair) → has_pair q (pairs_inside span (pairs_in m)) ≡ (in_span span (key_id q.key) && has_pair q (pairs_at (get m (key_id q.key))))
  unfolding pairs_inside
  has_of_map q =
      has_filtered (lies_in span) q (pairs_in m)
      ∙ ap (λ b. in_span span (key_id q.key) && b) (has-in m placed q)

  by_lookup : (q : Pair) (o p : Option Slot) → ((s : Slot) → o ≡ Some s → p ≡ Some s) → (in_span span (key_id q.key) && has_pair q (pairs_at o)) ≡ true → (in_span span (key_id q.key) && has_pair q (pairs_at p)) ≡ true
  by_lookup q None p of has = absurd (true≢false (sym (and_parts (in_span span (key_id q.key)) false has).1))
  by_lookup q (Some s) p of has = ap (λ x. in_span span (key_id q.key) && has_pair q (pairs_at x)) (of s refl) ∙ has

  -- no more pairs of the entries lie in the span than of the map
  pub inside_le : AreOf m es → RisingPairs (pairs_inside span (pairs_in m)) → length (pairs_of_slots (entries_inside span es)) ≤ length (pairs_inside span (pairs_in m))
  inside_le of rises =
      let keyed = keyed_of m placed es once of in
      length-le_from_is_member same_pair_equiv (pairs_of_slots (entries_inside span es)) (pairs_inside span (pairs_in m))
      (distinct-gathered (entries_inside span es) (distinct-inside span es once) (keyed-inside span es keyed))
      (λ q t. has_of_map q ∙ by_lookup q _ _ (of (key_id q.key)) (sym (has-inside span es once keyed q) ∙ t))

  -- the pairs of all entries in the span are the map's pairs there
  pub inside_all : ((q : ℕ) → lookup (eqb q) es ≡ get m q) → AreCopies (pairs_inside span (pairs_in m)) (pairs_of_slots (entries_inside span es))
  inside_all all =
      let keyed = keyed_of m placed es once (λ q s held. sym (all q) ∙ held) in
      record {
        each = λ q.
            has-inside span es once keyed q
            ∙ ap (λ o. in_span span (key_id q.key) && has_pair q (pairs_at o)) (all (key_id q.key))
            ∙ sym (has_of_map q);
        once = distinct-gathered (entries_inside span es) (distinct-inside span es once) (keyed-inside span es keyed);
      }

-- the entries of the first shards

pub entries-append : (xs ys : List Shard) → entries_of (xs ++ ys) ≡ entries_of xs ++ entries_of ys
entries-append [] ys = refl
entries-append (x ∷ xs) ys = ap (λ (es : List (ℕ × Slot)). x.slots.entries ++ es) (entries-append xs ys) ∙ sym (append_assoc x.slots.entries (entries_of xs) (entries_of ys))

pub entries-more : (shards : List Shard) (i : ℕ) (d : Shard) → i < length shards → entries_of (take (i + 1) shards) ≡ entries_of (take i shards) ++ (slice_index_or shards i d).slots.entries
entries-more shards i d within =
    ap entries_of (take_more shards i d within)
    ∙ entries-append (take i shards) (slice_index_or shards i d ∷ [])
    ∙ ap (λ (es : List (ℕ × Slot)). entries_of (take i shards) ++ es) (append-nil (slice_index_or shards i d).slots.entries)

pub of_front : (shards : List Shard) (i : ℕ) → AreOf (slots_of shards) (entries_of (take i shards))
of_front shards i q s held =
    get_of shards q
    ∙ ap (λ (xs : List Shard). find nat_cmp q (entries_of xs)) (sym (take-append-drop i shards))
    ∙ ap (find nat_cmp q) (entries-append (take i shards) (drop i shards))
    ∙ find-append q (entries_of (take i shards)) (entries_of (drop i shards))
    ∙ ap (λ o. or_find o (find nat_cmp q (entries_of (drop i shards)))) (sym (same_test q (entries_of (take i shards))) ∙ held)

pub all_of : (shards : List Shard) (q : ℕ) → lookup (eqb q) (entries_of shards) ≡ get (slots_of shards) q
all_of shards q = same_test q (entries_of shards) ∙ sym (get_of shards q)
