-- What a scan over pairs learns from one more pair.
use Rattle.std.proofs.Common.{◌≡◌, ℕ, ◌+◌, ◌-◌, ◌<◌, ◌≤◌, Bool, true, false, cond, not, None, Some, List, [], ◌∷◌, ◌++◌, length, get_or, slice_get, Less, inl, inr, ⊎_elim, refl, sym, ◌∙◌, ap, ap₂, subst, arith, bytes_eq, length-append}
use Rattle.std.specs.Option.{option_copied}
use Rattle.std.proofs.lemmas.Bool.{true≢false, cond-true, cond-false, cases_lt}
use Rattle.std.proofs.lemmas.List.{take_all}
use Rattle.std.proofs.lemmas.Map.Keys.{Less-from_sorted}
use Rattle.std.proofs.lemmas.Option.{none-some, same_Some, slice_get_within, get_or_from_slice_get, slice_get-get_or}
use Rattle.std.proofs.Math.ListN.{get_or-append}
use Rattle.std.proofs.Math.Seq.{get_or-append_seam, take-append_seam}
use Rattle.chord_ident.specs.Circle.{in_span, key_id}
use Rattle.chord_map.specs.declared.pair.Pair.{Pair}
use Rattle.chord_map.specs.Map.{pair_cmp, values_at}
use Rattle.chord_map.specs.Pairs.{IsRising}
use Rattle.chord_map.proofs.Lists.{by_test, has_left, has_last, has_pushed, all_each, each_all}
use Rattle.chord_map.proofs.MapLemmas.{bytes_same, bytes_itself}
use Rattle.chord_map.proofs.Walked.{values_at-push}
use Rattle.chord_segment.specs.Segment.{Segment}
use Rattle.chord_handover.specs.declared.pair_scan.PairScan.{PairScan}
use Rattle.chord_handover.specs.Payload.{IsPayload}
use Rattle.chord_handover.specs.Passed.{HasPassed, last_of, count_like}
use Rattle.chord_handover.proofs.PayloadRules.{rising_from_next, new_key, none_before, has_upto, length_step}

-- the last pair

last_is : (passed : List Pair) (last d : Pair) → last_of passed ≡ Some last → (0 < length passed) × (get_or passed (length passed - 1) d ≡ last)
last_is passed last d e =
    let within = slice_get_within passed (length passed - 1) last e in
    (omega arith, get_or_from_slice_get passed (length passed - 1) last d e)

none_passed : (passed : List Pair) → None ≡ last_of passed → passed ≡ []
none_passed [] e = refl
none_passed (x ∷ xs) e =
    absurd (none-some (get_or (x ∷ xs) (length (x ∷ xs) - 1) x) (e ∙ slice_get-get_or (x ∷ xs) (length (x ∷ xs) - 1) x (omega arith)))

last_pushed : (passed : List Pair) (pair : Pair) → last_of (passed ++ pair ∷ []) ≡ Some pair
last_pushed passed pair =
    let all = passed ++ pair ∷ [] in
    let at : length all - 1 ≡ length passed = omega (arith, length-append passed (pair ∷ [])) in
    ap (slice_get all) at ∙ slice_get-get_or all (length passed) pair (omega (arith, length-append passed (pair ∷ [])))
    ∙ ap Some (get_or-append_seam passed pair [] pair)

-- rising pairs

rising_front : (xs ys : List Pair) → IsRising (xs ++ ys) → IsRising xs
rising_front xs ys rises =
    rising_from_next xs (λ d k within.
    sym (ap₂ pair_cmp (get_or-append xs ys d k (omega arith)) (get_or-append xs ys d (k + 1) within))
    ∙ Less-from_sorted pair_cmp (xs ++ ys) k (k + 1) d rises (omega arith) (omega (arith, length-append xs ys)))

rising_pushed : (passed : List Pair) (pair : Pair) → IsRising passed → ((last : Pair) → last_of passed ≡ Some last → pair_cmp last pair ≡ Less) → IsRising (passed ++ pair ∷ [])
rising_pushed passed pair rises above =
    rising_from_next (passed ++ pair ∷ []) (λ d k within.
    elim (cases_lt (k + 1) (length passed)) [
      | inl earlier ↦ ap₂ pair_cmp (get_or-append passed (pair ∷ []) d k (omega arith)) (get_or-append passed (pair ∷ []) d (k + 1) earlier)
          ∙ Less-from_sorted pair_cmp passed k (k + 1) d rises (omega arith) earlier
      | inr later ↦
          let at : k + 1 ≡ length passed = omega (arith, length-append passed (pair ∷ [])) in
          let before : length passed - 1 ≡ k = omega arith in
          ap₂ pair_cmp (get_or-append passed (pair ∷ []) d k (omega arith)) (ap (λ n. get_or (passed ++ pair ∷ []) n d) at ∙ get_or-append_seam passed pair [] d)
          ∙ above (get_or passed k d) (ap (slice_get passed) before ∙ slice_get-get_or passed k d (omega arith))
    ])

rises_on : (passed : List Pair) (pair last : Pair) → IsRising (passed ++ pair ∷ []) → last_of passed ≡ Some last → pair_cmp last pair ≡ Less
rises_on passed pair last rises e =
    let at = last_is passed last pair e in
    sym (ap₂ pair_cmp (get_or-append passed (pair ∷ []) pair (length passed - 1) (omega (arith, at.0)) ∙ at.1) (get_or-append_seam passed pair [] pair))
    ∙ Less-from_sorted pair_cmp (passed ++ pair ∷ []) (length passed - 1) (length passed) pair rises (omega (arith, at.0)) (omega (arith, length-append passed (pair ∷ [])))

-- the number of pairs with a key

count_pushed : (key : List ℕ) (passed : List Pair) (pair : Pair)
    → length (values_at key (passed ++ pair ∷ [])) ≡ cond (bytes_eq pair.key key) (length (values_at key passed) + 1) (length (values_at key passed))
count_pushed key passed pair = ap length (values_at-push key passed pair) ∙ length_step (bytes_eq pair.key key) pair.value (values_at key passed)

own_count : (passed : List Pair) (pair : Pair) → length (values_at pair.key (passed ++ pair ∷ [])) ≡ length (values_at pair.key passed) + 1
own_count passed pair =
    count_pushed pair.key passed pair
    ∙ cond-true (bytes_eq pair.key pair.key) (length (values_at pair.key passed) + 1) (length (values_at pair.key passed)) (bytes_itself pair.key pair.key refl)

none_yet : (passed : List Pair) (pair last : Pair) → IsRising (passed ++ pair ∷ []) → last_of passed ≡ Some last → bytes_eq last.key pair.key ≡ false → values_at pair.key passed ≡ []
none_yet passed pair last rises e apart =
    let all = passed ++ pair ∷ [] in
    let at = last_is passed last pair e in
    let here : get_or all (length passed) pair ≡ pair = get_or-append_seam passed pair [] pair in
    let before : get_or all (length passed - 1) pair ≡ last = get_or-append passed (pair ∷ []) pair (length passed - 1) (omega (arith, at.0)) ∙ at.1 in
    let differ : bytes_eq (get_or all (length passed - 1) pair).key (get_or all (length passed) pair).key ≡ false =
    ap₂ (λ (a b : Pair). bytes_eq a.key b.key) before here ∙ apart in
    sym (ap (values_at pair.key) (take_all (length passed) passed (omega arith)))
    ∙ none_before pair.key pair (length passed) passed (λ j below within.
    sym (ap₂ (λ (a b : Pair). bytes_eq a.key b.key) (get_or-append passed (pair ∷ []) pair j within) here)
    ∙ new_key all (length passed) pair rises at.0 (omega (arith, length-append passed (pair ∷ []))) differ j below)

-- a prefix of a payload's pairs makes a payload too
pub front : (segment : Segment) (xs ys : List Pair) → IsPayload (record { segment = segment; pairs = xs ++ ys }) → IsPayload (record { segment = segment; pairs = xs })
front segment xs ys rules = record {
  rising = rising_front xs ys rules.rising;
  inside = all_each (λ (pair : Pair). in_span segment.span (key_id pair.key) ≡ true) xs (λ pair there.
      each_all (λ (pair : Pair). in_span segment.span (key_id pair.key) ≡ true) (xs ++ ys) rules.inside pair (has_left xs ys pair there));
  few = λ key.
      let upto = has_upto key (xs ++ ys) (length xs) in
      let same = ap (λ ps. length (values_at key ps)) (take-append_seam xs ys) in
      let most = rules.few key in
      omega arith;
}

-- one more pair

pushed : (segment : Segment) (passed : List Pair) (pair : Pair) (run : PairScan) → IsPayload (record { segment = segment; pairs = passed })
    → in_span segment.span (key_id pair.key) ≡ true → ((last : Pair) → last_of passed ≡ Some last → pair_cmp last pair ≡ Less)
    → option_copied run.last ≡ Some pair → run.count ≡ length (values_at pair.key passed) + 1 → run.count ≤ 1000
    → HasPassed segment (passed ++ pair ∷ []) run
pushed segment passed pair run rules inside above last count most =
    let P = λ (other : Pair). in_span segment.span (key_id other.key) ≡ true in
    record {
      rules = record {
        rising = rising_pushed passed pair rules.rising above;
        inside = all_each P (passed ++ pair ∷ []) (λ other there.
            ⊎_elim (λ old. each_all P passed rules.inside other old) (λ same. subst P same inside) (has_pushed passed pair other there));
        few = λ key.
            by_test (bytes_eq pair.key key)
            (λ t. subst (λ k. length (values_at k (passed ++ pair ∷ [])) ≤ 1000) (bytes_same pair.key key t) (omega (arith, own_count passed pair)))
            (λ f.
            let same = count_pushed key passed pair ∙ cond-false (bytes_eq pair.key key) (length (values_at key passed) + 1) (length (values_at key passed)) f in
            let low = rules.few key in
            omega arith);
      };
      last = last ∙ sym (last_pushed passed pair);
      count = count ∙ sym (own_count passed pair) ∙ sym (ap (λ o. count_like o (passed ++ pair ∷ [])) (last_pushed passed pair));
    }

-- the first pair
pub first_goes : (segment : Segment) (passed : List Pair) (pair : Pair) (old run : PairScan) → HasPassed segment passed old → in_span segment.span (key_id pair.key) ≡ true
    → option_copied old.last ≡ None → option_copied run.last ≡ Some pair → run.count ≡ 1
    → HasPassed segment (passed ++ pair ∷ []) run
first_goes segment passed pair old run has inside none last one =
    let empty : passed ≡ [] = none_passed passed (sym none ∙ has.last) in
    let zero : length (values_at pair.key passed) ≡ 0 = ap (λ ps. length (values_at pair.key ps)) empty in
    pushed segment passed pair run has.rules inside (λ other e. absurd (none-some other (sym none ∙ has.last ∙ e))) last (omega arith) (omega arith)

-- one more pair with another key than the last one's
pub apart_goes : (segment : Segment) (passed : List Pair) (pair before : Pair) (old run : PairScan) → HasPassed segment passed old → in_span segment.span (key_id pair.key) ≡ true
    → option_copied old.last ≡ Some before → pair_cmp before pair ≡ Less → bytes_eq before.key pair.key ≡ false → option_copied run.last ≡ Some pair → run.count ≡ 1
    → HasPassed segment (passed ++ pair ∷ []) run
apart_goes segment passed pair before old run has inside some less apart last one =
    let at : last_of passed ≡ Some before = sym has.last ∙ some in
    let above : (other : Pair) → last_of passed ≡ Some other → pair_cmp other pair ≡ Less = λ other e. subst (λ (p : Pair). pair_cmp p pair ≡ Less) (same_Some before other (sym at ∙ e)) less in
    let none = ap length (none_yet passed pair before (rising_pushed passed pair has.rules.rising above) at apart) in
    pushed segment passed pair run has.rules inside above last (omega arith) (omega arith)

same_count : (segment : Segment) (passed : List Pair) (pair before : Pair) (old : PairScan) → HasPassed segment passed old → last_of passed ≡ Some before → before.key ≡ pair.key
    → old.count ≡ length (values_at pair.key passed)
same_count segment passed pair before old has at same = has.count ∙ ap (λ o. count_like o passed) at ∙ ap (λ k. length (values_at k passed)) same

-- one more pair with the same key
pub along_goes : (segment : Segment) (passed : List Pair) (pair before : Pair) (old run : PairScan) → HasPassed segment passed old → in_span segment.span (key_id pair.key) ≡ true
    → option_copied old.last ≡ Some before → pair_cmp before pair ≡ Less → before.key ≡ pair.key → old.count < 1000 → option_copied run.last ≡ Some pair → run.count ≡ old.count + 1
    → HasPassed segment (passed ++ pair ∷ []) run
along_goes segment passed pair before old run has inside some less same low last one =
    let at : last_of passed ≡ Some before = sym has.last ∙ some in
    let above : (other : Pair) → last_of passed ≡ Some other → pair_cmp other pair ≡ Less = λ other e. subst (λ (p : Pair). pair_cmp p pair ≡ Less) (same_Some before other (sym at ∙ e)) less in
    pushed segment passed pair run has.rules inside above last (omega (arith, same_count segment passed pair before old has at same)) (omega arith)

-- ---- pairs that make no payload

pub outside : (segment : Segment) (passed : List Pair) (pair : Pair) → in_span segment.span (key_id pair.key) ≡ false → ¬ IsPayload (record { segment = segment; pairs = passed ++ pair ∷ [] })
outside segment passed pair out rules =
    true≢false (sym (each_all (λ (other : Pair). in_span segment.span (key_id other.key) ≡ true) (passed ++ pair ∷ []) rules.inside pair (has_last passed pair)) ∙ out)

pub not_above : (segment : Segment) (passed : List Pair) (pair before : Pair) (old : PairScan) → HasPassed segment passed old → option_copied old.last ≡ Some before
    → (pair_cmp before pair ≡ Less → ⊥) → ¬ IsPayload (record { segment = segment; pairs = passed ++ pair ∷ [] })
not_above segment passed pair before old has some low rules = low (rises_on passed pair before rules.rising (sym has.last ∙ some))

pub too_many : (segment : Segment) (passed : List Pair) (pair before : Pair) (old : PairScan) → HasPassed segment passed old → option_copied old.last ≡ Some before
    → before.key ≡ pair.key → 1000 ≤ old.count → ¬ IsPayload (record { segment = segment; pairs = passed ++ pair ∷ [] })
too_many segment passed pair before old has some same full rules =
    let most = rules.few pair.key in
    absurd (omega (arith, own_count passed pair, same_count segment passed pair before old has (sym has.last ∙ some) same))

-- a test that keys differ

no_test : (b : Bool) → true ≡ not b → b ≡ false
no_test true h = absurd (true≢false h)
no_test false h = refl

yes_test : (b : Bool) → false ≡ not b → b ≡ true
yes_test true h = refl
yes_test false h = absurd (true≢false (sym h))

pub keys_apart : (x y : List ℕ) → true ≡ not (bytes_eq x y) → bytes_eq x y ≡ false
keys_apart x y h = no_test (bytes_eq x y) h

pub keys_alike : (x y : List ℕ) → false ≡ not (bytes_eq x y) → x ≡ y
keys_alike x y h = bytes_same x y (yes_test (bytes_eq x y) h)
