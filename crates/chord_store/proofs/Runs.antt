-- The pairs of a key are neighbours.
use Rattle.std.proofs.Common.{◌≡◌, ℕ, suc, ◌+◌, ◌-◌, ◌<◌, ◌≤◌, Bool, true, false, cond, List, [], ◌∷◌, ◌++◌, length, take, drop, get_or, Ordering, Less, Equal, Greater, refl, sym, ap, ◌∙◌, subst, arith, inl, inr, ◌⊎◌, bytes_eq, is_eq, nat_cmp}
use Rattle.std.specs.Ordering.{ordering_index, ordering_reverse, ordering_then, is_lt, is_le}
use Rattle.std.specs.Cmp.Lexicographic.{slice_cmp}
use Rattle.std.specs.List.{filter}
use Rattle.std.specs.List.Sorted.{IsNonDecreasingBy, IsPartitionedBy, IsPartitionPoint}
use Rattle.std.proofs.lemmas.Bool.{cases_lt, true≢false}
use Rattle.std.proofs.lemmas.List.{take-append-drop, get_or-take, get_or-drop, length-take, length-drop, append-nil}
use Rattle.std.proofs.lemmas.Map.Keys.{Less-from_sorted}
use Rattle.std.proofs.lemmas.Map.Text.{is_eq-slice_cmp}
use Rattle.chord_map.specs.declared.pair.Pair.{Pair}
use Rattle.chord_map.specs.Map.{pair_cmp}
use Rattle.chord_map.specs.Pairs.{IsRising}
use Rattle.chord_map.proofs.MapLemmas.{values_total}
use Rattle.std.proofs.lemmas.List.Elements.{filter-append}

-- how a pair's key compares with another
abbrev pub stands : List ℕ → Pair → Ordering
stands key pair = slice_cmp nat_cmp pair.key key

-- a pair below another has no greater key
keys_in_order : (p q : Pair) → pair_cmp p q ≡ Less → (slice_cmp nat_cmp p.key q.key ≡ Less) ⊎ (slice_cmp nat_cmp p.key q.key ≡ Equal)
keys_in_order p q less = go (slice_cmp nat_cmp p.key q.key) refl
  where
    go : (o : Ordering) → slice_cmp nat_cmp p.key q.key ≡ o → (slice_cmp nat_cmp p.key q.key ≡ Less) ⊎ (slice_cmp nat_cmp p.key q.key ≡ Equal)
    go Less e = inl e
    go Equal e = inr e
    go Greater e = let wrong : Greater ≡ Less = sym (ap (λ (o : Ordering). ordering_then o (slice_cmp nat_cmp p.value q.value)) e) ∙ less in absurd cc

index_le : (r s : Ordering) → (r ≡ Equal → s ≡ Greater) → (r ≡ Greater → s ≡ Greater) → ordering_index r ≤ ordering_index s
index_le Less s equal greater = omega arith
index_le Equal s equal greater = rw (equal refl) (omega arith)
index_le Greater s equal greater = rw (greater refl) (omega arith)

stands_no_higher : (p q : Pair) (key : List ℕ) → pair_cmp p q ≡ Less → ordering_index (stands key p) ≤ ordering_index (stands key q)
stands_no_higher p q key less =
    elim (keys_in_order p q less) [
      | inl below ↦ index_le (stands key p) (stands key q)
          (λ tie. values_total.antisymm q.key key ∙ ap ordering_reverse (sym (values_total.congr p.key key q.key tie) ∙ below))
          (λ above. values_total.antisymm q.key key ∙ ap ordering_reverse (values_total.trans key p.key q.key (values_total.antisymm key p.key ∙ ap ordering_reverse above) below))
      | inr same ↦ let e = values_total.congr p.key q.key key same in omega (arith, ap ordering_index e)
    ]

keys_rise : (pairs : List Pair) → IsRising pairs → (key : List ℕ) → IsNonDecreasingBy (λ (p : Pair). ordering_index (stands key p)) pairs
keys_rise pairs rises key i j d le within = elim (cases_lt i j) [
  | inl lt ↦ stands_no_higher (get_or pairs i d) (get_or pairs j d) key (Less-from_sorted pair_cmp pairs i j d rises lt within)
  | inr ge ↦ subst (λ k. ordering_index (stands key (get_or pairs i d)) ≤ ordering_index (stands key (get_or pairs k d))) {x = i} (omega arith) (omega arith)
]

lt_low : (o : Ordering) → is_lt o ≡ true → ordering_index o ≤ 0
lt_low Less e = omega arith
lt_low Equal e = absurd (true≢false (sym e))
lt_low Greater e = absurd (true≢false (sym e))

low_lt : (o : Ordering) → ordering_index o ≤ 0 → is_lt o ≡ true
low_lt Less e = refl
low_lt Equal e = absurd (omega arith)
low_lt Greater e = absurd (omega arith)

le_low : (o : Ordering) → is_le o ≡ true → ordering_index o ≤ 1
le_low Less e = omega arith
le_low Equal e = omega arith
le_low Greater e = absurd (true≢false (sym e))

low_le : (o : Ordering) → ordering_index o ≤ 1 → is_le o ≡ true
low_le Less e = refl
low_le Equal e = refl
low_le Greater e = absurd (omega arith)

pub parted_lt : (pairs : List Pair) → IsRising pairs → (key : List ℕ) → IsPartitionedBy (λ (p : Pair). is_lt (stands key p)) pairs
parted_lt pairs rises key i j d le within holds = low_lt (stands key (get_or pairs i d)) (omega (arith, keys_rise pairs rises key i j d le within, lt_low (stands key (get_or pairs j d)) holds))

pub parted_le : (pairs : List Pair) → IsRising pairs → (key : List ℕ) → IsPartitionedBy (λ (p : Pair). is_le (stands key p)) pairs
parted_le pairs rises key i j d le within holds = low_le (stands key (get_or pairs i d)) (omega (arith, keys_rise pairs rises key i j d le within, le_low (stands key (get_or pairs j d)) holds))

below_differs : (o : Ordering) → is_lt o ≡ true → is_eq o ≡ false
below_differs Less e = refl
below_differs Equal e = absurd (true≢false (sym e))
below_differs Greater e = refl

between_same : (o : Ordering) → is_lt o ≡ false → is_le o ≡ true → is_eq o ≡ true
between_same Less e f = absurd (true≢false e)
between_same Equal e f = refl
between_same Greater e f = absurd (true≢false (sym f))

above_differs : (o : Ordering) → is_le o ≡ false → is_eq o ≡ false
above_differs Less e = refl
above_differs Equal e = absurd (true≢false e)
above_differs Greater e = refl

lt_is_le : (o : Ordering) → is_lt o ≡ true → is_le o ≡ true
lt_is_le Less e = refl
lt_is_le Equal e = refl
lt_is_le Greater e = e

filter_none : (test : Pair → Bool) (xs : List Pair) → ((k : ℕ) (d : Pair) → k < length xs → test (get_or xs k d) ≡ false) → filter test xs ≡ []
filter_none test [] fails = refl
filter_none test (x ∷ xs) fails = ap (λ b. cond b (x ∷ filter test xs) (filter test xs)) (fails 0 x (omega arith)) ∙ filter_none test xs (λ k d lt. fails (suc k) d (omega arith))

filter_every : (test : Pair → Bool) (xs : List Pair) → ((k : ℕ) (d : Pair) → k < length xs → test (get_or xs k d) ≡ true) → filter test xs ≡ xs
filter_every test [] holds = refl
filter_every test (x ∷ xs) holds =
    ap (λ b. cond b (x ∷ filter test xs) (filter test xs)) (holds 0 x (omega arith)) ∙ ap (λ (ys : List Pair). x ∷ ys) (filter_every test xs (λ k d lt. holds (suc k) d (omega arith)))

-- the key's pairs begin where those below it end, and end where those not above it end
module _ (pairs : List Pair) (key : List ℕ) (start end : ℕ) (starts : IsPartitionPoint (λ (p : Pair). is_lt (stands key p) ≡ true) (λ (p : Pair). is_lt (stands key p) ≡ false) pairs start)
    (ends : IsPartitionPoint (λ (p : Pair). is_le (stands key p) ≡ true) (λ (p : Pair). is_le (stands key p) ≡ false) pairs end) (start_in : start ≤ length pairs) (end_in : end ≤ length pairs) where
  pub in_order : start ≤ end
  in_order = elim (cases_lt end start) [
    | inl lt ↦ let d : Pair = record { key = []; value = [] } in absurd (true≢false (sym (lt_is_le (stands key (get_or pairs end d)) (starts.0 end d (omega arith) lt)) ∙ ends.1 end d (omega arith) (omega arith)))
    | inr ge ↦ ge
  ]

  abbrev under : Pair → Bool
  under p = bytes_eq p.key key

  test_is : (p : Pair) (b : Bool) → is_eq (stands key p) ≡ b → under p ≡ b
  test_is p b e = sym (is_eq-slice_cmp p.key key) ∙ e

  pub run_is : filter (λ (p : Pair). bytes_eq p.key key) pairs ≡ take (end - start) (drop start pairs)
  run_is =
      let ordered = in_order in
      let rest : List Pair = drop start pairs in
      let rest_length = length-drop start pairs in
      let before : filter under (take start pairs) ≡ [] =
      filter_none under (take start pairs) (λ k d lt.
      let low : k < start = omega (arith, length-take start pairs) in
      test_is (get_or (take start pairs) k d) false (ap (λ (p : Pair). is_eq (stands key p)) (get_or-take start pairs k d low) ∙ below_differs (stands key (get_or pairs k d)) (starts.0 k d (omega arith) low))) in
      let here : filter under (take (end - start) rest) ≡ take (end - start) rest =
      filter_every under (take (end - start) rest) (λ k d lt.
      let low : k < end - start = omega (arith, length-take (end - start) rest) in
      let high : start + k < end = omega arith in
      test_is (get_or (take (end - start) rest) k d) true (ap (λ (p : Pair). is_eq (stands key p)) (get_or-take (end - start) rest k d low ∙ get_or-drop start pairs k d)
      ∙ between_same (stands key (get_or pairs (start + k) d)) (starts.1 (start + k) d (omega arith) (omega (arith, high, end_in))) (ends.0 (start + k) d (omega arith) high))) in
      let behind : filter under (drop (end - start) rest) ≡ [] =
      filter_none under (drop (end - start) rest) (λ k d lt.
      let within : start + ((end - start) + k) < length pairs = omega (arith, length-drop (end - start) rest, rest_length, start_in, end_in, ordered) in
      test_is (get_or (drop (end - start) rest) k d) false (ap (λ (p : Pair). is_eq (stands key p)) (get_or-drop (end - start) rest k d ∙ get_or-drop start pairs ((end - start) + k) d)
      ∙ above_differs (stands key (get_or pairs (start + ((end - start) + k)) d)) (ends.1 (start + ((end - start) + k)) d (omega (arith, ordered)) within))) in
      ap (filter under) (sym (take-append-drop start pairs)) ∙ filter-append under (take start pairs) rest
      ∙ ap (λ (xs : List Pair). xs ++ filter under rest) before
      ∙ ap (filter under) (sym (take-append-drop (end - start) rest)) ∙ filter-append under (take (end - start) rest) (drop (end - start) rest)
      ∙ ap (λ (xs : List Pair). xs ++ filter under (drop (end - start) rest)) here
      ∙ ap (λ (xs : List Pair). take (end - start) rest ++ xs) behind
      ∙ append-nil (take (end - start) rest)
