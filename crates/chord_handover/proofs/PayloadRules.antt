-- How a scan over pairs checks that they are sorted, and how many each key has.
use Rattle.std.proofs.Common.{◌≡◌, ℕ, zero, suc, ◌+◌, ◌-◌, ◌<◌, ◌≤◌, Bool, true, false, cond, List, [], ◌∷◌, ◌++◌, length, get_or, take, drop, min, map, filter, Ordering, Less, Equal, Greater, refl, sym, ◌∙◌, ap, arith, bytes_eq, length-append, take-append-drop, inl, inr, nat_cmp}
use Rattle.std.specs.Bool.{Decides}
use Rattle.std.specs.Ordering.{ordering_then, ordering_reverse, is_eq, is_gt}
use Rattle.std.specs.Cmp.Lexicographic.{slice_cmp}
use Rattle.std.proofs.lemmas.Bool.{true≢false, cond-false, cases_lt}
use Rattle.std.proofs.lemmas.Map.Keys.{Less-from_sorted, sorted_from_all_adjacent}
use Rattle.std.proofs.lemmas.Map.Text.{is_eq-slice_cmp}
use Rattle.std.proofs.lemmas.List.{take_all, take_min, length-drop, length-map}
use Rattle.std.proofs.Math.ListN.{drop_of_length-le}
use Rattle.std.proofs.lemmas.List.Elements.{filter-append}
use Rattle.chord_map.specs.declared.pair.Pair.{Pair}
use Rattle.chord_map.specs.Map.{same_pair, pair_cmp, values_at}
use Rattle.chord_map.specs.Pairs.{IsRising}
use Rattle.chord_map.proofs.Lists.{by_test}
use Rattle.chord_map.proofs.MapLemmas.{bytes_same, same_is, is_same, pairs_total, values_total}

-- pairs are sorted if each is below the next
pub rising_from_next : (pairs : List Pair) → ((d : Pair) (k : ℕ) → k + 1 < length pairs → pair_cmp (get_or pairs k d) (get_or pairs (k + 1) d) ≡ Less) → IsRising pairs
rising_from_next pairs next = sorted_from_all_adjacent pairs_total pairs (record { key = []; value = [] }) (next (record { key = []; value = [] }))

-- the order of two pairs whose keys differ
keys_less : (o p : Ordering) → ordering_then o p ≡ Less → is_eq o ≡ false → o ≡ Less
keys_less Less p e apart = refl
keys_less Equal p e apart = absurd (true≢false apart)
keys_less Greater p e apart = e

keys_no_greater : (o p : Ordering) → ordering_then o p ≡ Less → is_gt o ≡ false
keys_no_greater Less p e = refl
keys_no_greater Equal p e = refl
keys_no_greater Greater p e = absurd (cc)

no_value : (key : List ℕ) (x : Pair) (xs : List Pair) → bytes_eq x.key key ≡ false → values_at key xs ≡ [] → values_at key (x ∷ xs) ≡ []
no_value key x xs other none =
    ap (map (λ (pair : Pair). pair.value)) (cond-false (bytes_eq x.key key) (x ∷ filter (λ (pair : Pair). bytes_eq pair.key key) xs) (filter (λ (pair : Pair). bytes_eq pair.key key) xs) other) ∙ none

pub none_before : (key : List ℕ) (d : Pair) (n : ℕ) (xs : List Pair) → ((j : ℕ) → j < n → j < length xs → bytes_eq (get_or xs j d).key key ≡ false) → values_at key (take n xs) ≡ []
none_before key d zero xs others = refl
none_before key d (suc n) [] others = refl
none_before key d (suc n) (x ∷ xs) others =
    no_value key x (take n xs) (others 0 (omega arith) (omega arith)) (none_before key d n xs (λ j below within. others (suc j) (omega arith) (omega arith)))

-- a key other than the last one's is none of the earlier ones
pub new_key : (pairs : List Pair) (i : ℕ) (d : Pair) → IsRising pairs → 0 < i → i < length pairs → bytes_eq (get_or pairs (i - 1) d).key (get_or pairs i d).key ≡ false
    → (j : ℕ) → j < i → bytes_eq (get_or pairs j d).key (get_or pairs i d).key ≡ false
new_key pairs i d rises positive within apart j below =
    let key = (get_or pairs i d).key in
    let last = (get_or pairs (i - 1) d).key in
    let other = (get_or pairs j d).key in
    let higher : slice_cmp nat_cmp last key ≡ Less =
    keys_less (slice_cmp nat_cmp last key) (slice_cmp nat_cmp (get_or pairs (i - 1) d).value (get_or pairs i d).value)
    (Less-from_sorted pair_cmp pairs (i - 1) i d rises (omega arith) within) (is_eq-slice_cmp last key ∙ apart) in
    let lower : slice_cmp nat_cmp key last ≡ Greater = values_total.antisymm key last ∙ ap ordering_reverse higher in
    by_test (bytes_eq other key)
    (λ t. elim (cases_lt j (i - 1)) [
      | inl earlier ↦
          let no_greater : is_gt (slice_cmp nat_cmp other last) ≡ false =
          keys_no_greater (slice_cmp nat_cmp other last) (slice_cmp nat_cmp (get_or pairs j d).value (get_or pairs (i - 1) d).value)
          (Less-from_sorted pair_cmp pairs j (i - 1) d rises earlier (omega arith)) in
          let same : other ≡ key = bytes_same other key t in
          absurd (true≢false (sym (ap is_gt (ap (λ k. slice_cmp nat_cmp k last) same ∙ lower)) ∙ no_greater))
      | inr not_earlier ↦
          let place : j ≡ i - 1 = omega arith in
          ap (λ k. bytes_eq (get_or pairs k d).key key) place ∙ apart
    ])
    (λ f. f)

pub length_step : (b : Bool) (value : List ℕ) (values : List (List ℕ)) → length (cond b (values ++ value ∷ []) values) ≡ cond b (length values + 1) (length values)
length_step true value values = length-append values (value ∷ [])
length_step false value values = refl

-- a key has no more values in a prefix than in all pairs
pub has_upto : (key : List ℕ) (pairs : List Pair) (n : ℕ) → length (values_at key (take n pairs)) ≤ length (values_at key pairs)
has_upto key pairs n =
    let under : Pair → Bool = λ (pair : Pair). bytes_eq pair.key key in
    let whole : length (values_at key (take n pairs ++ drop n pairs)) ≡ length (values_at key pairs) = ap (λ ps. length (values_at key ps)) (take-append-drop n pairs) in
    let parts : length (values_at key (take n pairs ++ drop n pairs)) ≡ length (filter under (take n pairs) ++ filter under (drop n pairs)) =
    length-map (filter under (take n pairs ++ drop n pairs)) (λ (pair : Pair). pair.value) ∙ ap length (filter-append under (take n pairs) (drop n pairs)) in
    let first : length (values_at key (take n pairs)) ≡ length (filter under (take n pairs)) = length-map (filter under (take n pairs)) (λ (pair : Pair). pair.value) in
    omega (arith, length-append (filter under (take n pairs)) (filter under (drop n pairs)))

-- pairs with equal bytes are equal
pub pairs_same : (a b : Pair) → Decides (same_pair a b) (a ≡ b)
pairs_same a b = (same_is a b, is_same a b)

-- the first 64 of the pairs left from an index on
pub chunk_at : (start size : ℕ) (pairs : List Pair) → size ≡ min (length (take (length pairs - start) (drop start pairs))) 64
    → take size (take (length pairs - start) (drop start pairs)) ≡ take 64 (drop start pairs)
chunk_at start size pairs is =
    let rest = drop start pairs in
    let all : take (length pairs - start) rest ≡ rest = take_all (length pairs - start) rest (omega (arith, length-drop start pairs)) in
    let turned : size ≡ min 64 (length rest) = is ∙ (let l = ap length all in omega arith) in
    ap (take size) all ∙ ap (λ n. take n rest) turned ∙ take_min 64 rest

-- no pairs come after all pairs
pub none_behind : (start : ℕ) (pairs : List Pair) → length pairs ≤ start → [] ≡ take 64 (drop start pairs)
none_behind start pairs low = sym (ap (take 64) (drop_of_length-le pairs low))
