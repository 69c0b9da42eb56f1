-- Sorted lists: what a search finds in them, and what a change at that index does.
use Rattle.std.proofs.Common.{◌≡◌, ℕ, zero, suc, ◌<◌, ◌≤◌, Bool, true, false, cond, not, ◌||◌, ◌&&◌, List, [], ◌∷◌, ◌++◌, length, get_or, take, drop, Result, Ok, Err, IfOk, IfErr, Ordering, Less, Equal, Greater, refl, sym, ap, ◌∙◌, subst, ⊎_elim, inl, inr, arith}
use Rattle.std.specs.Bool.{Decides}
use Rattle.std.specs.Ordering.{ordering_index, ordering_reverse}
use Rattle.std.specs.Cmp.{IsTotalOrder}
use Rattle.std.specs.List.{filter, list_any, insert as insert_at, remove as remove_at, AllByRecursion, items_where_true}
use Rattle.std.specs.List.Sorted.{IsStrictlySortedBy, IsSearchInRange, IsBinarySearchResult, IsNonDecreasingBy}
use Rattle.std.proofs.lemmas.Bool.{cases_lt, true≢false}
use Rattle.std.proofs.lemmas.List.{take-append-drop}
use Rattle.std.proofs.lemmas.List.Folds.{list_any_none, list_any_at, list_any-append}
use Rattle.std.proofs.lemmas.Map.Keys.{sorted_head, sorted_tail, Less-from_sorted}
use Rattle.chord_map.specs.Places.{IsAt, IsGapFor}
use Rattle.chord_map.proofs.Lists.{Has, Each, Rises, by_test, less_apart, has_cases, has_inserted}

-- the two ways to say that a list rises

each_from : {A : Type 0} (P : A → Type 0) (xs : List A) → AllByRecursion P xs → Each P xs
each_from P [] all x h = absurd h
each_from P (y ∷ xs) all x (inl e) = subst P e all.0
each_from P (y ∷ xs) all x (inr h) = each_from P xs all.1 x h

each_back : {A : Type 0} (P : A → Type 0) (xs : List A) → Each P xs → AllByRecursion P xs
each_back P [] each = tt
each_back P (y ∷ xs) each = (each y (inl refl), each_back P xs (λ x h. each x (inr h)))

pub rises_from_rising : {A : Type 0} (R : A → A → Ordering) (xs : List A) → IsStrictlySortedBy R xs → Rises R xs
unfolding IsStrictlySortedBy
rises_from_rising R [] r = tt
rises_from_rising R (x ∷ xs) r = (each_from (λ y. R x y ≡ Less) xs r.0, rises_from_rising R xs r.1)

pub rising_from_rises : {A : Type 0} (R : A → A → Ordering) (xs : List A) → Rises R xs → IsStrictlySortedBy R xs
unfolding IsStrictlySortedBy
rising_from_rises R [] r = tt
rising_from_rises R (x ∷ xs) r = (each_back (λ y. R x y ≡ Less) xs r.0, rising_from_rises R xs r.1)

-- a filtered sorted list is sorted

all_kept : {A : Type 0} (P : A → Type 0) (bs : List Bool) (xs : List A) → AllByRecursion P xs → AllByRecursion P (items_where_true bs xs)
all_kept P [] xs all = tt
all_kept P (b ∷ bs) [] all = tt
all_kept P (true ∷ bs) (x ∷ xs) all = (all.0, all_kept P bs xs all.1)
all_kept P (false ∷ bs) (x ∷ xs) all = all_kept P bs xs all.1

pub rising-kept : {A : Type 0} (R : A → A → Ordering) (bs : List Bool) (xs : List A) → IsStrictlySortedBy R xs → IsStrictlySortedBy R (items_where_true bs xs)
unfolding IsStrictlySortedBy
rising-kept R [] xs rises = tt
rising-kept R (b ∷ bs) [] rises = tt
rising-kept R (true ∷ bs) (x ∷ xs) rises = (all_kept (λ y. R x y ≡ Less) bs xs rises.0, rising-kept R bs xs rises.1)
rising-kept R (false ∷ bs) (x ∷ xs) rises = rising-kept R bs xs rises.1

-- one list behind another
pub rises-append : {A : Type 0} (R : A → A → Ordering) (xs ys : List A) → Rises R xs → Rises R ys → ((x y : A) → Has xs x → Has ys y → R x y ≡ Less) → Rises R (xs ++ ys)
rises-append R [] ys rx ry below = ry
rises-append R (x ∷ xs) ys rx ry below =
    (λ y h. ⊎_elim (λ a. rx.0 y a) (λ b. below x y (inl refl) b) (has_cases xs ys y h), rises-append R xs ys rx.1 ry (λ a b ha hb. below a b (inr ha) hb))

index_le : (r s : Ordering) → (r ≡ Equal → s ≡ Greater) → (r ≡ Greater → s ≡ Greater) → ordering_index r ≤ ordering_index s
index_le Less s equal greater = omega arith
index_le Equal s equal greater = rw (equal refl) (omega arith)
index_le Greater s equal greater = rw (greater refl) (omega arith)

or_turn : (a b c : Bool) → (a || (b || c)) ≡ (b || (a || c))
or_turn true true c = refl
or_turn true false c = refl
or_turn false b c = refl

-- a total order in which only equal elements tie, and the test of equality
module _ {A : Type 0} (R : A → A → Ordering) (total : IsTotalOrder R) (only : (x y : A) → R x y ≡ Equal → x ≡ y) (same : A → A → Bool) (decides : (x y : A) → Decides (same x y) (x ≡ y)) where
  -- if x is below y, x compares with e no higher than y does
  compares_no_higher : (x y e : A) → R x y ≡ Less → ordering_index (R x e) ≤ ordering_index (R y e)
  compares_no_higher x y e less =
      index_le (R x e) (R y e)
      (λ tie. total.antisymm y e ∙ ap ordering_reverse (sym (total.congr x e y tie) ∙ less))
      (λ above. total.antisymm y e ∙ ap ordering_reverse (total.trans e x y (total.antisymm e x ∙ ap ordering_reverse above) less))

  comparisons_rise : (xs : List A) → IsStrictlySortedBy R xs → (e : A) → IsNonDecreasingBy (λ x. ordering_index (R x e)) xs
  comparisons_rise xs rises e i j d le within = elim (cases_lt i j) [
    | inl lt ↦ compares_no_higher _ _ e (Less-from_sorted R xs i j d rises lt within)
    | inr ge ↦ subst (λ k. ordering_index (R (get_or xs i d) e) ≤ ordering_index (R (get_or xs k d) e)) {x = i} (omega arith) (omega arith)
  ]

  -- a binary search ends at the element, or at the gap for it
  pub searched : (xs : List A) → IsStrictlySortedBy R xs → (e : A) (r : Result ℕ ℕ) → IsSearchInRange r (length xs) → IsBinarySearchResult (λ x. R x e) xs r → record { found : IfOk r (IsAt xs e); absent : IfErr r (IsGapFor R xs e) }
  searched xs rises e (Ok place) in_range equal = record { found = record { in_range = in_range; is_element = λ d. only _ _ (equal d) }; absent = tt }
  searched xs rises e (Err place) in_range parted = record {
    found = tt;
    absent = record {
      in_range = in_range;
      smaller_before = λ k d lt. (parted (comparisons_rise xs rises e)).0 k d (omega arith) lt;
      greater_after = λ k d le lt. total.antisymm e _ ∙ ap ordering_reverse ((parted (comparisons_rise xs rises e)).1 k d le lt);
    };
  }

  -- an element below another is not equal to it
  pub apart_below : (x e : A) → R x e ≡ Less → same e x ≡ false
  apart_below x e less = by_test (same e x) (λ t. absurd (less_apart R total x e less (sym ((decides e x).0 t)))) (λ f. f)

  pub apart_above : (x e : A) → R e x ≡ Less → same e x ≡ false
  apart_above x e less = by_test (same e x) (λ t. absurd (less_apart R total e x less ((decides e x).0 t))) (λ f. f)

  -- ---- the element is in the list, or it is not
  pub has_at_place : (xs : List A) (e : A) (place : ℕ) → IsAt xs e place → list_any (same e) xs ≡ true
  has_at_place xs e place at = list_any_at (same e) xs place e at.in_range ((decides e _).1 (sym (at.is_element e)))

  pub has_not_in_gap : (xs : List A) (e : A) (place : ℕ) → IsGapFor R xs e place → list_any (same e) xs ≡ false
  has_not_in_gap xs e place gap = list_any_none (same e) xs (λ k d within. elim (cases_lt k place) [
    | inl lt ↦ apart_below _ e (gap.smaller_before k d lt)
    | inr ge ↦ apart_above _ e (gap.greater_after k d ge within)
  ])

  abbrev others : A → List A → List A
  others e xs = filter (λ (x : A). not (same e x)) xs

  -- nothing is dropped above e
  pub keeps_above : (e : A) (xs : List A) → AllByRecursion (λ y. R e y ≡ Less) xs → filter (λ (x : A). not (same e x)) xs ≡ xs
  keeps_above e [] above = refl
  keeps_above e (x ∷ xs) above =
      ap (λ b. cond (not b) (x ∷ others e xs) (others e xs)) (apart_above x e above.0) ∙ ap (λ ys. x ∷ ys) (keeps_above e xs above.1)

  -- removing the element at its index keeps all others
  pub remove_at_place : (xs : List A) (e : A) (place : ℕ) → IsStrictlySortedBy R xs → IsAt xs e place → remove_at xs place ≡ filter (λ (x : A). not (same e x)) xs
  remove_at_place [] e place rises at = absurd (omega (arith, at.in_range))
  remove_at_place (x ∷ xs) e zero rises at =
      let is : x ≡ e = at.is_element e in
      let above = subst (λ z. AllByRecursion (λ y. R z y ≡ Less) xs) is (sorted_head R x xs rises) in
      sym (ap (λ b. cond (not b) (x ∷ others e xs) (others e xs)) ((decides e x).1 (sym is)) ∙ keeps_above e xs above)
  remove_at_place (x ∷ xs) e (suc place) rises at =
      let within : place < length xs = omega (arith, at.in_range) in
      let below : R x e ≡ Less = ap (R x) (sym (at.is_element e)) ∙ Less-from_sorted R (x ∷ xs) zero (suc place) e rises (omega arith) at.in_range in
      ap (λ ys. x ∷ ys) (remove_at_place xs e place (sorted_tail R x xs rises) (record { in_range = within; is_element = at.is_element }))
      ∙ sym (ap (λ b. cond (not b) (x ∷ others e xs) (others e xs)) (apart_below x e below))

  -- inserting the element at its gap keeps the order
  pub rises_at_gap : (xs : List A) (e : A) (place : ℕ) → IsGapFor R xs e place → Rises R xs → Rises R (insert_at xs place e)
  rises_at_gap [] e zero gap r = (λ y h. absurd h, tt)
  rises_at_gap [] e (suc place) gap r = absurd (omega (arith, gap.in_range))
  rises_at_gap (x ∷ xs) e zero gap r =
      let first : R e x ≡ Less = gap.greater_after 0 x (omega arith) (omega arith) in
      (λ y h. ⊎_elim (λ is. subst (λ z. R e z ≡ Less) is first) (λ more. total.trans e x y first (r.0 y more)) h, r)
  rises_at_gap (x ∷ xs) e (suc place) gap r =
      let rest : IsGapFor R xs e place = record {
        in_range = omega (arith, gap.in_range);
        smaller_before = λ k d lt. gap.smaller_before (suc k) d (omega arith);
        greater_after = λ k d le lt. gap.greater_after (suc k) d (omega arith) (omega arith);
      } in
      (λ y h. ⊎_elim (λ old. r.0 y old) (λ is. subst (λ z. R x z ≡ Less) is (gap.smaller_before 0 x (omega arith))) (has_inserted xs place e y h), rises_at_gap xs e place rest r.1)

  -- the elements after an insert
  pub has_after_insert : (xs : List A) (place : ℕ) (e q : A) → list_any (same q) (insert_at xs place e) ≡ (same q e || list_any (same q) xs)
  has_after_insert xs place e q =
      list_any-append (same q) (take place xs) (e ∷ drop place xs) ∙ or_turn (list_any (same q) (take place xs)) (same q e) (list_any (same q) (drop place xs))
      ∙ ap (λ b. same q e || b) (sym (list_any-append (same q) (take place xs) (drop place xs)) ∙ ap (list_any (same q)) (take-append-drop place xs))

  has_among_more : (e q x : A) (xs : List A) → list_any (same q) (others e xs) ≡ (not (same q e) && list_any (same q) xs)
      → (s t : Bool) → same e x ≡ s → same q x ≡ t → list_any (same q) (cond (not s) (x ∷ others e xs) (others e xs)) ≡ (not (same q e) && (t || list_any (same q) xs))
  has_among_more e q x xs more true true es qs =
      let is : same q e ≡ true = (decides q e).1 ((decides q x).0 qs ∙ sym ((decides e x).0 es)) in
      more ∙ ap (λ b. not b && list_any (same q) xs) is ∙ sym (ap (λ b. not b && true) is)
  has_among_more e q x xs more true false es qs = more
  has_among_more e q x xs more false true es qs =
      let apart : same q e ≡ false = by_test (same q e) (λ t. absurd (true≢false (sym ((decides e x).1 (sym ((decides q e).0 t) ∙ (decides q x).0 qs)) ∙ es))) (λ f. f) in
      ap (λ b. b || list_any (same q) (others e xs)) qs ∙ sym (ap (λ b. not b && true) apart)
  has_among_more e q x xs more false false es qs = ap (λ b. b || list_any (same q) (others e xs)) qs ∙ more

  -- the elements without this one
  pub has_among_others : (e q : A) (xs : List A) → list_any (same q) (filter (λ (x : A). not (same e x)) xs) ≡ (not (same q e) && list_any (same q) xs)
  has_among_others e q [] = elim (same q e) as (λ b. false ≡ (not b && false)) [ true ↦ refl | false ↦ refl ]
  has_among_others e q (x ∷ xs) = has_among_more e q x xs (has_among_others e q xs) (same e x) (same q x) refl refl
