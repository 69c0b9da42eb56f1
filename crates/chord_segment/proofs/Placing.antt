-- What a search for a caller finds.
use Rattle.std.proofs.Common.{◌≡◌, ℕ, zero, suc, ◌<◌, ◌≤◌, List, [], ◌∷◌, length, get_or, take, drop, Result, Ok, Err, IfOk, IfErr, Ordering, Less, Equal, Greater, nat_cmp, arith, refl}
use Rattle.std.specs.Ordering.{ordering_index, MatchOrdering}
use Rattle.std.specs.List.Sorted.{IsSearchInRange, IsBinarySearchResult, IsNonDecreasingBy}
use Rattle.std.proofs.lemmas.Cmp.{ranked}
use Rattle.chord_map.proofs.Each.{Each}
use Rattle.chord_segment.specs.Callers.{OfCaller, IsGrouped, IsOwnAt, IsGapAt}
use Rattle.chord_segment.proofs.Grouped.{each_at}

each_take_from : (P : OfCaller → Type 0) (xs : List OfCaller) (i : ℕ) → i ≤ length xs → ((k : ℕ) (d : OfCaller) → k < i → P (get_or xs k d)) → Each P (take i xs)
each_take_from P xs zero s h = tt
each_take_from P [] (suc i) s h = tt
each_take_from P (x ∷ xs) (suc i) s h = (h zero x (omega arith), each_take_from P xs i (omega arith) (λ k d l. h (suc k) d (omega arith)))

each_drop_from : (P : OfCaller → Type 0) (xs : List OfCaller) (i : ℕ) → ((k : ℕ) (d : OfCaller) → i ≤ k → k < length xs → P (get_or xs k d)) → Each P (drop i xs)
each_drop_from P [] zero h = tt
each_drop_from P [] (suc i) h = tt
each_drop_from P (x ∷ xs) zero h = (h zero x (omega arith) (omega arith), each_drop_from P xs zero (λ k d l w. h (suc k) d (omega arith) (omega arith)))
each_drop_from P (x ∷ xs) (suc i) h = each_drop_from P xs i (λ k d l w. h (suc k) d (omega arith) (omega arith))

rises : (xs : List OfCaller) (i j : ℕ) (d : OfCaller) → IsGrouped xs → i ≤ j → j < length xs → (get_or xs i d).caller ≤ (get_or xs j d).caller
rises [] i j d g l w = absurd (omega arith)
rises (x ∷ xs) zero zero d g l w = omega arith
rises (x ∷ xs) zero (suc j) d g l w = let less = each_at (λ (o : OfCaller). x.caller < o.caller) xs j d g.1 (omega arith) in omega arith
rises (x ∷ xs) (suc i) zero d g l w = absurd (omega arith)
rises (x ∷ xs) (suc i) (suc j) d g l w = rises xs i j d g.2 (omega arith) (omega arith)

no_higher : (a b c : ℕ) (r s : Ordering) → MatchOrdering r (a < c) (a ≡ c) (c < a) → MatchOrdering s (b < c) (b ≡ c) (c < b) → a ≤ b → ordering_index r ≤ ordering_index s
no_higher a b c Less s h k l = omega arith
no_higher a b c Equal Less h k l = absurd (omega arith)
no_higher a b c Equal Equal h k l = omega arith
no_higher a b c Equal Greater h k l = omega arith
no_higher a b c Greater Less h k l = absurd (omega arith)
no_higher a b c Greater Equal h k l = absurd (omega arith)
no_higher a b c Greater Greater h k l = omega arith

is_less : (a c : ℕ) (r : Ordering) → MatchOrdering r (a < c) (a ≡ c) (c < a) → r ≡ Less → a < c
is_less a c Less h e = h
is_less a c Equal h e = cc
is_less a c Greater h e = cc

is_equal : (a c : ℕ) (r : Ordering) → MatchOrdering r (a < c) (a ≡ c) (c < a) → r ≡ Equal → a ≡ c
is_equal a c Less h e = cc
is_equal a c Equal h e = h
is_equal a c Greater h e = cc

is_greater : (a c : ℕ) (r : Ordering) → MatchOrdering r (a < c) (a ≡ c) (c < a) → r ≡ Greater → c < a
is_greater a c Less h e = cc
is_greater a c Equal h e = cc
is_greater a c Greater h e = h

comparisons_rise : (xs : List OfCaller) (caller : ℕ) → IsGrouped xs → IsNonDecreasingBy (λ (own : OfCaller). ordering_index (nat_cmp own.caller caller)) xs
comparisons_rise xs caller g i j d l w =
    let a = (get_or xs i d).caller in
    let b = (get_or xs j d).caller in
    no_higher a b caller (nat_cmp a caller) (nat_cmp b caller) (ranked a caller (nat_cmp a caller) refl) (ranked b caller (nat_cmp b caller) refl) (rises xs i j d g l w)

pub searched : (xs : List OfCaller) → IsGrouped xs → (caller : ℕ) (r : Result ℕ ℕ) → IsSearchInRange r (length xs) → IsBinarySearchResult (λ (own : OfCaller). nat_cmp own.caller caller) xs r
    → record { found : IfOk r (λ place. IsOwnAt caller xs place); absent : IfErr r (λ place. IsGapAt caller xs place) }
searched xs g caller (Ok place) bound by =
    record {
      found = record {
        in_range = bound;
        is_own = λ d. let a = (get_or xs place d).caller in is_equal a caller (nat_cmp a caller) (ranked a caller (nat_cmp a caller) refl) (by d);
      };
      absent = tt;
    }
searched xs g caller (Err place) bound by =
    let parted = by (comparisons_rise xs caller g) in
    record {
      found = tt;
      absent = record {
        in_range = bound;
        before = each_take_from (λ (own : OfCaller). own.caller < caller) xs place bound
            (λ k d l. let a = (get_or xs k d).caller in is_less a caller (nat_cmp a caller) (ranked a caller (nat_cmp a caller) refl) (parted.0 k d (omega arith) l));
        behind = each_drop_from (λ (own : OfCaller). caller < own.caller) xs place
            (λ k d l w. let a = (get_or xs k d).caller in is_greater a caller (nat_cmp a caller) (ranked a caller (nat_cmp a caller) refl) (parted.1 k d l w));
      };
    }
