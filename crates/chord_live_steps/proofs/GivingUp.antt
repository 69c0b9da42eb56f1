-- Giving up the least pending request raises the floor.
use Rattle.std.proofs.Common.{◌≡◌, ℕ, zero, suc, ◌+◌, ◌-◌, ◌<◌, ◌≤◌, Bool, true, false, cond, not, ◌&&◌, ◌||◌, eqb, None, Some, is_some, List, length, ◌⊎◌, inl, inr, ⊎_elim, refl, sym, ◌∙◌, ap, subst, arith}
use Rattle.std.proofs.lemmas.Bool.{and_parts, not-true, true≢false, cases_eq, cases_lt, eq-eqb, or_cases, or_left, or_right}
use Rattle.std.proofs.lemmas.Option.{slice_get_within}
use Rattle.chord_caller.specs.Answers.{is_pending, PendingIs}
use Rattle.chord_caller.specs.Caller.{Caller, is_taken, is_among, is_settled, floor_upto, floor_of, submission_at, with_given_up}
use Rattle.chord_caller.proofs.GivenUp.{among_more}
use Rattle.chord_caller.proofs.Waiting.{got_within}
use Rattle.chord_live_steps.specs.Asking.{GiveUpIs}
use Rattle.chord_table.specs.Views.{CallerSight}
use Rattle.chord_map.specs.History.{done_at}
use Rattle.chord_map.proofs.Lists.{by_option}
use Rattle.chord_model.proofs.CallerLemmas.{floor_settled, floor_within}

-- a number that is pending was submitted
pending_within : (caller : Caller) (least : ℕ) → is_pending least caller ≡ true → (1 ≤ least) × (least ≤ length caller.submitted)
pending_within caller zero pending = absurd (true≢false (sym pending))
pending_within caller (suc place) pending =
    let there = (and_parts (is_some (submission_at (suc place) caller.submitted)) (not (is_settled caller (suc place))) pending).0 in
    by_option (submission_at (suc place) caller.submitted)
    (λ none. absurd (true≢false (sym there ∙ ap is_some none)))
    (λ submission at. (omega arith, omega (arith, slice_get_within caller.submitted place submission at)))

-- all numbers below the least pending one are settled
below_settled : (caller : Caller) (least : ℕ) → PendingIs caller (Some least) → (place : ℕ) → 1 ≤ place → place < least → is_settled caller place ≡ true
below_settled caller least h zero low high = absurd (omega arith)
below_settled caller least h (suc place) low high =
    let there : is_some (submission_at (suc place) caller.submitted) ≡ true = got_within caller.submitted place (omega (arith, (pending_within caller least h.0).1)) in
    let idle = h.1 (suc place) high in
    grind (arith, there, idle)

upto_low : (caller : Caller) (n : ℕ) → floor_upto caller n ≤ n
unfolding floor_upto
upto_low caller zero = omega arith
upto_low caller (suc n) = by_test (eqb (floor_upto caller n) n && is_settled caller (suc n)) (upto_low caller n)
  where
    by_test : (test : Bool) → floor_upto caller n ≤ n → cond test (suc n) (floor_upto caller n) ≤ suc n
    by_test true low = omega arith
    by_test false low = omega arith

upto_rises : (caller : Caller) (n more : ℕ) → floor_upto caller n ≤ floor_upto caller (n + more)
unfolding floor_upto
upto_rises caller n zero = let e : n + zero ≡ n = omega arith in omega (arith, ap (floor_upto caller) e)
upto_rises caller n (suc more) =
    let e : n + suc more ≡ suc (n + more) = omega arith in
    let step = by_test (eqb (floor_upto caller (n + more)) (n + more) && is_settled caller (suc (n + more))) (upto_low caller (n + more)) in
    omega (arith, ap (floor_upto caller) e, step, upto_rises caller n more)
  where
    by_test : (test : Bool) → floor_upto caller (n + more) ≤ n + more → floor_upto caller (n + more) ≤ cond test (suc (n + more)) (floor_upto caller (n + more))
    by_test true low = omega arith
    by_test false low = omega arith

all_upto : (caller : Caller) (n : ℕ) → ((place : ℕ) → 1 ≤ place → place ≤ n → is_settled caller place ≡ true) → floor_upto caller n ≡ n
unfolding floor_upto
all_upto caller zero all = refl
all_upto caller (suc n) all =
    let below : floor_upto caller n ≡ n = all_upto caller n (λ place low high. all place low (omega arith)) in
    let settled : is_settled caller (suc n) ≡ true = all (suc n) (omega arith) (omega arith) in
    grind (arith, below, settled)

-- what was settled still is, and the number that is given up too
settled_more : (caller : Caller) (least place : ℕ) → (eqb least place ≡ true) ⊎ (is_settled caller place ≡ true) → is_settled (with_given_up least caller) place ≡ true
unfolding is_settled is_taken
settled_more caller least place h =
    ap (λ b. is_some (done_at caller.number place caller.mine) || b) (among_more place least caller.given_up)
    ∙ ⊎_elim
    (λ here. or_right (is_some (done_at caller.number place caller.mine)) (eqb least place || is_among place caller.given_up) (or_left (eqb least place) (is_among place caller.given_up) here))
    (λ there. ⊎_elim
    (λ taken. or_left (is_some (done_at caller.number place caller.mine)) (eqb least place || is_among place caller.given_up) taken)
    (λ given. or_right (is_some (done_at caller.number place caller.mine)) (eqb least place || is_among place caller.given_up) (or_right (eqb least place) (is_among place caller.given_up) given))
    (or_cases (is_some (done_at caller.number place caller.mine)) (is_among place caller.given_up) there))
    h

-- the floor rises when the least pending request is given up
pub floor_rises : (caller : Caller) (least : ℕ) → PendingIs caller (Some least) → floor_of caller < floor_of (with_given_up least caller)
floor_rises caller least h =
    let after : Caller = with_given_up least caller in
    let within = pending_within caller least h.0 in
    let waits : is_settled caller least ≡ false =
    not-true (is_settled caller least) (and_parts (is_some (submission_at least caller.submitted)) (not (is_settled caller least)) h.0).1 in
    let before : floor_of caller < least =
    ⊎_elim (λ (low : floor_of caller < least). low) (λ (high : least ≤ floor_of caller). absurd (true≢false (sym (floor_settled caller least within.0 high) ∙ waits))) (cases_lt (floor_of caller) least) in
    let all = λ (place : ℕ) (low : 1 ≤ place) (high : place ≤ least). settled_after place low high in
    let upto = all_upto after least all in
    let count : (more : ℕ) × (least + more ≡ length caller.submitted) = (length caller.submitted - least, omega arith) in
    omega (arith, before, upto, upto_rises after least count.0, ap (floor_upto after) count.1)
  where
    settled_after : (place : ℕ) → 1 ≤ place → place ≤ least → is_settled (with_given_up least caller) place ≡ true
    settled_after place low high =
        ⊎_elim
        (λ here. settled_more caller least place (inl (eq-eqb least place (sym here))))
        (λ there. settled_more caller least place (inr (below_settled caller least h place low (omega arith))))
        (cases_eq place least)

-- the least pending request is given up, so fewer are above the floor
pub fewer_above : (number : ℕ) (old new : CallerSight) → PendingIs old.caller (Some number) → GiveUpIs number old true new
    → length new.caller.submitted - floor_of new.caller < length old.caller.submitted - floor_of old.caller
fewer_above number old new h (pending, gone) =
    let rises = floor_rises old.caller number h in
    let floor : floor_of new.caller ≡ floor_of (with_given_up number old.caller) = ap (λ (s : CallerSight). floor_of s.caller) gone in
    let count : length new.caller.submitted ≡ length old.caller.submitted = ap (λ (s : CallerSight). length s.caller.submitted) gone in
    let within = floor_within new.caller in
    omega (arith, rises, floor, count, within)

-- the least pending request is given up, whatever the call answers
pub gave_up_least : (number : ℕ) (old new : CallerSight) (gone : Bool) → PendingIs old.caller (Some number) → GiveUpIs number old gone new → GiveUpIs number old true new
gave_up_least number old new true h is = is
gave_up_least number old new false h is = absurd (true≢false (sym h.0 ∙ is.0))
