-- What a search finds in sorted pairs, and what a change at that index does.
use Rattle.std.proofs.Common.{◌≡◌, ℕ, zero, suc, ◌+◌, ◌<◌, ◌≤◌, Bool, true, false, cond, not, ◌||◌, List, [], ◌∷◌, length, Result, IfOk, IfErr, Less, Equal, Greater, refl, sym, ap, ◌∙◌, subst, arith}
use Rattle.std.specs.Bool.{Decides}
use Rattle.std.specs.Ordering.{ordering_reverse}
use Rattle.std.specs.List.{insert as insert_at, remove as remove_at, AllByRecursion}
use Rattle.std.specs.List.Sorted.{IsSearchInRange, IsBinarySearchResult}
use Rattle.std.proofs.lemmas.Cmp.{tied_itself}
use Rattle.std.proofs.lemmas.List.Kept.{IsStrictlySortedBy-filter}
use Rattle.std.proofs.lemmas.Map.Keys.{sorted_head, sorted_tail, Less-from_sorted}
use Rattle.chord_map.specs.declared.pair.Pair.{Pair}
use Rattle.chord_map.specs.Map.{pair_cmp, same_pair, has_pair, by_order, insert_pair, remove_pair}
use Rattle.chord_map.specs.Pairs.{IsRising}
use Rattle.chord_map.specs.Places.{IsAt, IsGapFor}
use Rattle.chord_map.proofs.Lists.{not_both, by_test, same_rising}
use Rattle.chord_map.proofs.MapLemmas.{RisingPairs, pairs_total, tied_same, is_same, same_is, has_of, of_has, rises_inserted, has_inserted_pair}
use Rattle.chord_map.proofs.Ordered as ordered
use Rattle.chord_map.proofs.Ordered.{rises_from_rising, rising_from_rises}

decides : (a b : Pair) → Decides (same_pair a b) (a ≡ b)
decides a b = (same_is a b, is_same a b)

pub searched : (ps : List Pair) → IsRising ps → (e : Pair) (r : Result ℕ ℕ) → IsSearchInRange r (length ps) → IsBinarySearchResult (λ p. pair_cmp p e) ps r → record { found : IfOk r (IsAt ps e); absent : IfErr r (IsGapFor pair_cmp ps e) }
searched = ordered.searched pair_cmp pairs_total tied_same same_pair decides

pub has_at_place : (ps : List Pair) (e : Pair) (place : ℕ) → IsAt ps e place → has_pair e ps ≡ true
has_at_place = ordered.has_at_place pair_cmp pairs_total tied_same same_pair decides

pub has_not_in_gap : (ps : List Pair) (e : Pair) (place : ℕ) → IsGapFor pair_cmp ps e place → has_pair e ps ≡ false
has_not_in_gap = ordered.has_not_in_gap pair_cmp pairs_total tied_same same_pair decides

-- removing the pair at its index removes it from the map
pub remove_at_place : (xs : List Pair) (e : Pair) (place : ℕ) → IsRising xs → IsAt xs e place → remove_at xs place ≡ remove_pair e xs
unfolding remove_pair
remove_at_place xs e place rises at = ordered.remove_at_place pair_cmp pairs_total tied_same same_pair decides xs e place rises at

greater_from : (x e : Pair) → pair_cmp x e ≡ Less → pair_cmp e x ≡ Greater
greater_from x e less = pairs_total.antisymm e x ∙ ap ordering_reverse less

-- removing a pair that is not there changes nothing
pub remove_absent : (e : Pair) (xs : List Pair) → has_pair e xs ≡ false → remove_pair e xs ≡ xs
unfolding remove_pair
remove_absent e [] none = refl
remove_absent e (x ∷ xs) none =
    by_test (same_pair e x)
    (λ t. not_both (has_pair e (x ∷ xs)) (ap (λ b. b || has_pair e xs) t) none)
    (λ f. ap (λ b. cond (not b) (x ∷ remove_pair e xs) (remove_pair e xs)) f
    ∙ ap (λ ys. x ∷ ys) (remove_absent e xs (sym (ap (λ b. b || has_pair e xs) f) ∙ none)))

-- inserting a pair that is there changes nothing
pub insert_present : (xs : List Pair) (e : Pair) (place : ℕ) → IsRising xs → IsAt xs e place → insert_pair e xs ≡ xs
unfolding insert_pair
insert_present [] e place rises at = absurd (omega (arith, at.in_range))
insert_present (x ∷ xs) e zero rises at =
    ap (λ o. by_order o (e ∷ (x ∷ xs)) (x ∷ xs) (x ∷ insert_pair e xs)) (ap (pair_cmp e) (at.is_element e) ∙ tied_itself pairs_total e)
insert_present (x ∷ xs) e (suc place) rises at =
    let within : place < length xs = omega (arith, at.in_range) in
    let below : pair_cmp x e ≡ Less = ap (pair_cmp x) (sym (at.is_element e)) ∙ Less-from_sorted pair_cmp (x ∷ xs) zero (suc place) e rises (omega arith) at.in_range in
    ap (λ o. by_order o (e ∷ (x ∷ xs)) (x ∷ xs) (x ∷ insert_pair e xs)) (greater_from x e below)
    ∙ ap (λ ys. x ∷ ys) (insert_present xs e place (sorted_tail pair_cmp x xs rises) (record { in_range = within; is_element = at.is_element }))

-- inserting the pair at its gap inserts it into the map
pub insert_in_gap : (xs : List Pair) (e : Pair) (place : ℕ) → IsGapFor pair_cmp xs e place → insert_at xs place e ≡ insert_pair e xs
unfolding insert_pair
insert_in_gap [] e zero gap = refl
insert_in_gap [] e (suc place) gap = absurd (omega (arith, gap.in_range))
insert_in_gap (x ∷ xs) e zero gap =
    sym (ap (λ o. by_order o (e ∷ (x ∷ xs)) (x ∷ xs) (x ∷ insert_pair e xs)) (gap.greater_after 0 x (omega arith) (omega arith)))
insert_in_gap (x ∷ xs) e (suc place) gap =
    let rest : IsGapFor pair_cmp xs e place = record {
      in_range = omega (arith, gap.in_range);
      smaller_before = λ k d lt. gap.smaller_before (suc k) d (omega arith);
      greater_after = λ k d le lt. gap.greater_after (suc k) d (omega arith) (omega arith);
    } in
    ap (λ ys. x ∷ ys) (insert_in_gap xs e place rest)
    ∙ sym (ap (λ o. by_order o (e ∷ (x ∷ xs)) (x ∷ xs) (x ∷ insert_pair e xs)) (greater_from x e (gap.smaller_before 0 x (omega arith))))

-- the list rises after each change

pub rising-insert : (e : Pair) (xs : List Pair) → IsRising xs → IsRising (insert_pair e xs)
rising-insert e xs rises = rising_from_rises pair_cmp (insert_pair e xs) (rises_inserted e xs (rises_from_rising pair_cmp xs rises))

pub rising-remove : (e : Pair) (xs : List Pair) → IsRising xs → IsRising (remove_pair e xs)
unfolding remove_pair
rising-remove e xs rises = IsStrictlySortedBy-filter pair_cmp (λ (other : Pair). not (same_pair e other)) xs rises

-- two maps with the same pairs are equal
pub same_pairs : (a b : List Pair) → RisingPairs a → RisingPairs b → ((q : Pair) → has_pair q a ≡ has_pair q b) → a ≡ b
same_pairs a b ra rb agree =
    same_rising pair_cmp pairs_total a b ra rb
    (λ v h. has_of v b (sym (agree v) ∙ of_has v a h))
    (λ v h. has_of v a (agree v ∙ of_has v b h))

-- inserting a new pair adds one
pub length-insert_new : (e : Pair) (xs : List Pair) → has_pair e xs ≡ false → length (insert_pair e xs) ≡ length xs + 1
unfolding insert_pair
length-insert_new e [] none = refl
length-insert_new e (x ∷ xs) none =
    let rest : has_pair e xs ≡ false = by_test (same_pair e x) (λ t. not_both (has_pair e (x ∷ xs)) (ap (λ b. b || has_pair e xs) t) none) (λ f. sym (ap (λ b. b || has_pair e xs) f) ∙ none) in
    let more = length-insert_new e xs rest in
    elim (pair_cmp e x) as (λ o. pair_cmp e x ≡ o → length (by_order o (e ∷ (x ∷ xs)) (x ∷ xs) (x ∷ insert_pair e xs)) ≡ length (x ∷ xs) + 1) [
      | Less ↦ λ is. omega arith
      | Equal ↦ λ is. not_both (has_pair e (x ∷ xs)) (ap (λ b. b || has_pair e xs) (is_same e x (tied_same e x is))) none
      | Greater ↦ λ is. omega arith
    ] refl

-- inserting a pair adds at most one
pub length-insert_le : (e : Pair) (xs : List Pair) → length (insert_pair e xs) ≤ length xs + 1
unfolding insert_pair
length-insert_le e [] = omega arith
length-insert_le e (x ∷ xs) =
    let more = length-insert_le e xs in
    elim (pair_cmp e x) as (λ o. length (by_order o (e ∷ (x ∷ xs)) (x ∷ xs) (x ∷ insert_pair e xs)) ≤ length (x ∷ xs) + 1) [
      | Less ↦ omega arith
      | Equal ↦ omega arith
      | Greater ↦ omega arith
    ]

-- removing a pair that is there takes one away
pub length-remove_there : (e : Pair) (xs : List Pair) → IsRising xs → has_pair e xs ≡ true → length (remove_pair e xs) + 1 ≡ length xs
unfolding remove_pair
length-remove_there e [] rises there = absurd (cc)
length-remove_there e (x ∷ xs) rises there =
    by_test (same_pair e x)
    (λ t. let gone : remove_pair e (x ∷ xs) ≡ remove_pair e xs = ap (λ b. cond (not b) (x ∷ remove_pair e xs) (remove_pair e xs)) t in
    let all : remove_pair e xs ≡ xs = ordered.keeps_above pair_cmp pairs_total tied_same same_pair decides e xs (subst (λ (z : Pair). AllByRecursion (λ y. pair_cmp z y ≡ Less) xs) (sym (same_is e x t)) (sorted_head pair_cmp x xs rises)) in
    omega (arith, ap length (gone ∙ all)))
    (λ f. let kept : remove_pair e (x ∷ xs) ≡ x ∷ remove_pair e xs = ap (λ b. cond (not b) (x ∷ remove_pair e xs) (remove_pair e xs)) f in
    let more = length-remove_there e xs (sorted_tail pair_cmp x xs rises) (sym (ap (λ b. b || has_pair e xs) f) ∙ there) in
    omega (arith, ap length kept, more))

same_or : (e q : Pair) (xs : List Pair) → has_pair e xs ≡ true → (b : Bool) → same_pair q e ≡ b → (b || has_pair q xs) ≡ has_pair q xs
same_or e q xs there true is = sym (ap (λ (p : Pair). has_pair p xs) (same_is q e is) ∙ there)
same_or e q xs there false is = refl

-- inserting a pair that is there changes nothing
pub insert_there : (e : Pair) (xs : List Pair) → IsRising xs → has_pair e xs ≡ true → insert_pair e xs ≡ xs
insert_there e xs rises there =
    let r = rises_from_rising pair_cmp xs rises in
    same_pairs (insert_pair e xs) xs (rises_inserted e xs r) r (λ q. has_inserted_pair q e xs ∙ same_or e q xs there (same_pair q e) refl)
