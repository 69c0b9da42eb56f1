-- The numbers that were given up, as they are read from what a caller stores.
use Rattle.std.proofs.Common.{◌≡◌, ℕ, zero, suc, ◌+◌, ◌<◌, ◌≤◌, Bool, true, false, cond, ◌&&◌, ◌||◌, eqb, ltb, Some, List, [], ◌∷◌, ◌++◌, slice_get, slice_set, refl, sym, ◌∙◌, ap, arith}
use Rattle.std.proofs.lemmas.Bool.{cond-true, cond-false, eq-eqb, ne_eqb, lt-ltb, le-ltb}
use Rattle.std.proofs.lemmas.Option.{none-some, same_Some}
use Rattle.chord_caller.specs.declared.submitted.RequestProgress.{RequestProgress}
use Rattle.chord_caller.specs.declared.submitted.Submitted.{Submitted}
use Rattle.chord_caller.specs.Caller.{is_among, with_number}
use Rattle.chord_caller.specs.Submitted.{progress_of, progress_at, was_given_up, number_if, given_up_from}

-- ---- one number more

or_swap : (a b c : Bool) → (a || (b || c)) ≡ (b || (a || c))
or_swap true true c = refl
or_swap true false c = refl
or_swap false b c = refl

among_by : (b : Bool) (asked number first : ℕ) (rest : List ℕ) → is_among asked (with_number number rest) ≡ (eqb number asked || is_among asked rest)
    → is_among asked (cond b (number ∷ first ∷ rest) (first ∷ with_number number rest)) ≡ (eqb number asked || is_among asked (first ∷ rest))
among_by true asked number first rest e = refl
among_by false asked number first rest e =
    ap (λ b. eqb first asked || b) e ∙ or_swap (eqb first asked) (eqb number asked) (is_among asked rest)

-- a number is among these with one more if it is the new one or was among them
pub among_more : (asked number : ℕ) (numbers : List ℕ) → is_among asked (with_number number numbers) ≡ (eqb number asked || is_among asked numbers)
among_more asked number [] = refl
among_more asked number (first ∷ rest) = among_by (ltb number first) asked number first rest (among_more asked number rest)

-- ---- the numbers that entries have

among_if : (b : Bool) (asked first : ℕ) (rest : List ℕ) → is_among asked (number_if b first rest) ≡ ((b && eqb first asked) || is_among asked rest)
among_if true asked first rest = refl
among_if false asked first rest = refl

both_off : (a b c : Bool) → b ≡ false → c ≡ false → ((a && b) || c) ≡ false
both_off true b c off none = ap (λ t. t || c) off ∙ none
both_off false b c off none = none

-- all of them are above the first number
low_absent : (before : ℕ) (submitted : List Submitted) (asked : ℕ) → asked ≤ before → is_among asked (given_up_from before submitted) ≡ false
low_absent before [] asked low = refl
low_absent before (entry ∷ rest) asked low =
    among_if (was_given_up (Some entry.progress)) asked (suc before) (given_up_from (suc before) rest)
    ∙ both_off (was_given_up (Some entry.progress)) (eqb (suc before) asked) (is_among asked (given_up_from (suc before) rest))
    (ne_eqb (suc before) asked (λ e. omega arith)) (low_absent (suc before) rest asked (omega arith))

here_only : (a b c : Bool) → b ≡ true → c ≡ false → ((a && b) || c) ≡ a
here_only true b c on none = ap (λ t. t || c) on
here_only false b c on none = none

there_only : (a b c : Bool) → b ≡ false → ((a && b) || c) ≡ c
there_only true b c off = ap (λ t. t || c) off
there_only false b c off = refl

-- the entry at an index was given up exactly if its number is among them
among_from : (before : ℕ) (submitted : List Submitted) (place : ℕ)
    → is_among (suc (before + place)) (given_up_from before submitted) ≡ was_given_up (progress_of (slice_get submitted place))
among_from before [] place = refl
among_from before (entry ∷ rest) zero =
    among_if (was_given_up (Some entry.progress)) (suc (before + zero)) (suc before) (given_up_from (suc before) rest)
    ∙ here_only (was_given_up (Some entry.progress)) (eqb (suc before) (suc (before + zero))) (is_among (suc (before + zero)) (given_up_from (suc before) rest))
    (eq-eqb (suc before) (suc (before + zero)) (omega arith)) (low_absent (suc before) rest (suc (before + zero)) (omega arith))
among_from before (entry ∷ rest) (suc place) =
    let same : suc (before + suc place) ≡ suc (suc before + place) = omega arith in
    among_if (was_given_up (Some entry.progress)) (suc (before + suc place)) (suc before) (given_up_from (suc before) rest)
    ∙ there_only (was_given_up (Some entry.progress)) (eqb (suc before) (suc (before + suc place))) (is_among (suc (before + suc place)) (given_up_from (suc before) rest))
    (ne_eqb (suc before) (suc (before + suc place)) (λ e. omega arith))
    ∙ ap (λ n. is_among n (given_up_from (suc before) rest)) same
    ∙ among_from (suc before) rest place

-- a request was given up exactly if its number is among those given up
pub among_is : (submitted : List Submitted) (number : ℕ) → is_among number (given_up_from 0 submitted) ≡ was_given_up (progress_at number submitted)
among_is submitted zero = low_absent 0 submitted zero (omega arith)
among_is submitted (suc place) =
    let shift : suc place ≡ suc (0 + place) = omega arith in
    ap (λ n. is_among n (given_up_from 0 submitted)) shift ∙ among_from 0 submitted place

-- ---- how they change

-- a request that is submitted adds none
pub given_up_pushed : (before : ℕ) (submitted : List Submitted) (entry : Submitted) → was_given_up (Some entry.progress) ≡ false
    → given_up_from before (submitted ++ entry ∷ []) ≡ given_up_from before submitted
given_up_pushed before [] entry waits = ap (λ b. number_if b (suc before) []) waits
given_up_pushed before (first ∷ rest) entry waits =
    ap (number_if (was_given_up (Some first.progress)) (suc before)) (given_up_pushed (suc before) rest entry waits)

-- nor does one that is settled by a reply
pub given_up_same : (before : ℕ) (submitted : List Submitted) (place : ℕ) (entry after : Submitted) → slice_get submitted place ≡ Some entry
    → was_given_up (Some after.progress) ≡ was_given_up (Some entry.progress) → given_up_from before (slice_set submitted place after) ≡ given_up_from before submitted
given_up_same before [] place entry after at same = absurd (none-some entry at)
given_up_same before (first ∷ rest) zero entry after at same =
    ap (λ b. number_if b (suc before) (given_up_from (suc before) rest)) (same ∙ ap (λ (e : Submitted). was_given_up (Some e.progress)) (sym (same_Some first entry at)))
given_up_same before (first ∷ rest) (suc place) entry after at same =
    ap (number_if (was_given_up (Some first.progress)) (suc before)) (given_up_same (suc before) rest place entry after at same)

-- a number below all of them comes first
first_by : (b : Bool) (number first : ℕ) (rest : List ℕ) → number < first → with_number number rest ≡ number ∷ rest
    → with_number number (number_if b first rest) ≡ number ∷ number_if b first rest
first_by true number first rest low e = cond-true (ltb number first) (number ∷ first ∷ rest) (first ∷ with_number number rest) (lt-ltb number first low)
first_by false number first rest low e = e

comes_first : (number before : ℕ) (submitted : List Submitted) → number ≤ before → with_number number (given_up_from before submitted) ≡ number ∷ given_up_from before submitted
comes_first number before [] low = refl
comes_first number before (entry ∷ rest) low =
    first_by (was_given_up (Some entry.progress)) number (suc before) (given_up_from (suc before) rest) (omega arith) (comes_first number (suc before) rest (omega arith))

-- a number above the first one comes behind it
behind_by : (b : Bool) (number first : ℕ) (rest : List ℕ) → first < number → number_if b first (with_number number rest) ≡ with_number number (number_if b first rest)
behind_by true number first rest low = sym (cond-false (ltb number first) (number ∷ first ∷ rest) (first ∷ with_number number rest) (le-ltb number first (omega arith)))
behind_by false number first rest low = refl

-- a request that is given up adds its number
given_up_there : (before : ℕ) (submitted : List Submitted) (place : ℕ) (entry after : Submitted) → slice_get submitted place ≡ Some entry
    → was_given_up (Some entry.progress) ≡ false → was_given_up (Some after.progress) ≡ true
    → given_up_from before (slice_set submitted place after) ≡ with_number (suc (before + place)) (given_up_from before submitted)
given_up_there before [] place entry after at waits gone = absurd (none-some entry at)
given_up_there before (first ∷ rest) zero entry after at waits gone =
    let is : suc (before + zero) ≡ suc before = omega arith in
    let was : was_given_up (Some first.progress) ≡ false = ap (λ (e : Submitted). was_given_up (Some e.progress)) (same_Some first entry at) ∙ waits in
    ap (λ b. number_if b (suc before) (given_up_from (suc before) rest)) gone
    ∙ sym (comes_first (suc before) (suc before) rest (omega arith))
    ∙ ap (λ n. with_number n (given_up_from (suc before) rest)) (sym is)
    ∙ ap (λ b. with_number (suc (before + zero)) (number_if b (suc before) (given_up_from (suc before) rest))) (sym was)
given_up_there before (first ∷ rest) (suc place) entry after at waits gone =
    let same : suc (suc before + place) ≡ suc (before + suc place) = omega arith in
    ap (number_if (was_given_up (Some first.progress)) (suc before))
    (given_up_there (suc before) rest place entry after at waits gone ∙ ap (λ n. with_number n (given_up_from (suc before) rest)) same)
    ∙ behind_by (was_given_up (Some first.progress)) (suc (before + suc place)) (suc before) (given_up_from (suc before) rest) (omega arith)

pub given_up_more : (submitted : List Submitted) (place : ℕ) (entry after : Submitted) → slice_get submitted place ≡ Some entry
    → was_given_up (Some entry.progress) ≡ false → was_given_up (Some after.progress) ≡ true
    → given_up_from 0 (slice_set submitted place after) ≡ with_number (suc place) (given_up_from 0 submitted)
given_up_more submitted place entry after at waits gone =
    let shift : suc (0 + place) ≡ suc place = omega arith in
    given_up_there 0 submitted place entry after at waits gone ∙ ap (λ n. with_number n (given_up_from 0 submitted)) shift
