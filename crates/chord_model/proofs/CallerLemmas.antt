-- Callers that grow: submitted requests, taken calls and what was given up stay.
use Rattle.std.proofs.Common.{◌≡◌, ◌≢◌, ℕ, zero, suc, ◌+◌, ◌≤◌, Bool, true, false, cond, ◌&&◌, ◌||◌, eqb, ◌⊎◌, inl, inr, ⊎_elim, refl, sym, ◌∙◌, ap, ap₂, subst, arith, List, [], ◌∷◌, ◌++◌, length, take, find, Option, Some, None, is_some, slice_get, length-append}
use Rattle.std.proofs.lemmas.Bool.{and_parts, and_from, eqb-true, eq-eqb, ne_eqb, cond-true, cond-false, cases_eq, or_cases, or_parts, or_left, or_right}
use Rattle.std.proofs.lemmas.Option.{same_Some, none-some}
use Rattle.std.proofs.lemmas.List.{take-append-le}
use Rattle.chord_caller.specs.Caller.{Submission, Caller, submission_at, is_taken, is_among, is_settled, floor_upto, floor_of, seen_at}
use Rattle.chord_map.proofs.Lists.{by_test, find_left}
use Rattle.chord_map.specs.declared.request.Request.{Request}
use Rattle.chord_model.proofs.Invariant.{SettledUpto, HasSettled, Submitted}
use Rattle.chord_model.proofs.Numbered.{callers_by}
use Rattle.chord_model.specs.World.{caller_at, put_caller}
use Rattle.chord_map.proofs.HistoryLemmas.{done_left}
use Rattle.chord_map.specs.declared.done.Done.{Done}
use Rattle.chord_map.specs.History.{done_at}

-- a caller that has grown has at least its old calls
pub record Grown (old new : Caller) : Type 0 where
  pub number : new.number ≡ old.number
  pub window : new.window ≡ old.window
  pub submitted : (more : List Submission) × (new.submitted ≡ old.submitted ++ more)
  pub mine : (more : List Done) × (new.mine ≡ old.mine ++ more)
  pub told : (more : List Done) × (new.told ≡ old.told ++ more)
  pub given_up : (place : ℕ) → is_among place old.given_up ≡ true → is_among place new.given_up ≡ true

abbrev pub AllGrown : List Caller → List Caller → Type 0
AllGrown old new = (number : ℕ) (caller : Caller) → caller_at number old ≡ Some caller
    → (after : Caller) × (caller_at number new ≡ Some after) × Grown caller after

append_none {ℓ} : {A : Type ℓ} (xs : List A) → xs ≡ xs ++ []
append_none [] = refl
append_none (x ∷ xs) = ap (λ ys. x ∷ ys) (append_none xs)

pub nothing_more : {A : Type 0} (xs : List A) → (more : List A) × (xs ≡ xs ++ more)
nothing_more xs = ([], append_none xs)

pub grown_itself : (caller : Caller) → Grown caller caller
grown_itself caller = record { number = refl; window = refl; submitted = nothing_more caller.submitted; mine = nothing_more caller.mine; told = nothing_more caller.told; given_up = λ place given. given }

pub all_grown_itself : (callers : List Caller) → AllGrown callers callers
all_grown_itself callers number caller e = (caller, e, grown_itself caller)

pub all_grown_put : (after : Caller) (callers : List Caller) (caller : Caller) → caller_at after.number callers ≡ Some caller → Grown caller after
    → AllGrown callers (put_caller after callers)
all_grown_put after callers caller here grown number other e =
    ⊎_elim
    (λ same.
    let is : caller ≡ other = same_Some caller other (sym here ∙ subst (λ n. caller_at n callers ≡ Some other) same e) in
    (after, subst (λ n. caller_at n (put_caller after callers) ≡ Some after) (sym same) (callers_by.put_same after callers caller here), subst (λ c. Grown c after) is grown))
    (λ apart. (other, callers_by.put_apart after callers number apart ∙ e, grown_itself other))
    (cases_eq number after.number)

pub caller_left : (number : ℕ) (callers more : List Caller) (caller : Caller) → caller_at number callers ≡ Some caller → caller_at number (callers ++ more) ≡ Some caller
unfolding caller_at
caller_left number callers more caller e = find_left (λ (c : Caller). eqb c.number number) callers more caller e

pub all_grown_pushed : (callers : List Caller) (new : Caller) → AllGrown callers (callers ++ new ∷ [])
unfolding caller_at
all_grown_pushed callers new number caller e = (caller, find_left (λ (c : Caller). eqb c.number number) callers (new ∷ []) caller e, grown_itself caller)

got_left : {A : Type 0} (xs more : List A) (place : ℕ) (x : A) → slice_get xs place ≡ Some x → slice_get (xs ++ more) place ≡ Some x
got_left [] more place x e = absurd (none-some x e)
got_left (y ∷ xs) more zero x e = e
got_left (y ∷ xs) more (suc place) x e = got_left xs more place x e

pub submission_left : (place : ℕ) (submitted more : List Submission) (submission : Submission) → submission_at place submitted ≡ Some submission
    → submission_at place (submitted ++ more) ≡ Some submission
submission_left zero submitted more submission e = absurd (none-some submission e)
submission_left (suc place) submitted more submission e = got_left submitted more place submission e

pub submission_grown : (old new : Caller) → Grown old new → (place : ℕ) (submission : Submission) → submission_at place old.submitted ≡ Some submission
    → submission_at place new.submitted ≡ Some submission
submission_grown old new grown place submission e =
    ap (submission_at place) (grown.submitted).1 ∙ submission_left place old.submitted (grown.submitted).0 submission e

some_is : {A : Type 0} (o : Option A) → is_some o ≡ true → (x : A) × (o ≡ Some x)
some_is None e = absurd (cc)
some_is (Some x) e = (x, refl)

pub taken_is : (caller : Caller) (place : ℕ) → is_taken caller place ≡ true → (done : Done) × (done_at caller.number place caller.mine ≡ Some done)
unfolding is_taken
taken_is caller place e = some_is (done_at caller.number place caller.mine) e

pub is_taken_from : (caller : Caller) (place : ℕ) (done : Done) → done_at caller.number place caller.mine ≡ Some done → is_taken caller place ≡ true
unfolding is_taken
is_taken_from caller place done e = ap is_some e

-- a number that is not settled is not taken
pub unsettled_untaken : (caller : Caller) (place : ℕ) → is_settled caller place ≡ false → is_taken caller place ≡ false
unfolding is_settled
unsettled_untaken caller place e = (or_parts (is_taken caller place) (is_among place caller.given_up) e).0

-- what is taken is read from the taken calls alone
pub taken_same : (old new : Caller) → new.number ≡ old.number → new.mine ≡ old.mine → (place : ℕ) → is_taken new place ≡ is_taken old place
unfolding is_taken
taken_same old new number mine place = ap₂ (λ n (dones : List Done). is_some (done_at n place dones)) number mine

pub taken_grown : (old new : Caller) → Grown old new → (place : ℕ) → is_taken old place ≡ true → is_taken new place ≡ true
taken_grown old new grown place e =
    let r = taken_is old place e in
    is_taken_from new place r.0
    (ap₂ (λ n dones. done_at n place dones) grown.number (grown.mine).1 ∙ done_left old.number place old.mine (grown.mine).0 r.0 r.1)

pub settled_grown : (old new : Caller) → Grown old new → (place : ℕ) → is_settled old place ≡ true → is_settled new place ≡ true
unfolding is_settled
settled_grown old new grown place e =
    ⊎_elim
    (λ taken. or_left (is_taken new place) (is_among place new.given_up) (taken_grown old new grown place taken))
    (λ given. or_right (is_taken new place) (is_among place new.given_up) (grown.given_up place given))
    (or_cases (is_taken old place) (is_among place old.given_up) e)

pub submitted_grown : (old new : List Caller) → AllGrown old new → (number place : ℕ) (request : Request) → Submitted old number place request → Submitted new number place request
submitted_grown old new grown number place request s =
    let r = grown number s.caller s.is_caller in
    record {
      caller = r.0;
      submission = s.submission;
      is_caller = r.1;
      is_submission = submission_grown s.caller r.0 r.2 place s.submission s.is_submission;
      is_request = s.is_request;
    }

pub settled_by_grown : (old new : List Caller) → AllGrown old new → (number place : ℕ) → HasSettled old number place → HasSettled new number place
settled_by_grown old new grown number place t =
    let r = grown number t.caller t.is_caller in
    record { caller = r.0; is_caller = r.1; settled = settled_grown t.caller r.0 r.2 place t.settled }

pub settled_upto_grown : (old new : List Caller) → AllGrown old new → (number floor : ℕ) → SettledUpto old number floor → SettledUpto new number floor
settled_upto_grown old new grown number floor t place low high = settled_by_grown old new grown number place (t place low high)

-- a number names one request
pub one_request : (callers : List Caller) (number place : ℕ) (one other : Request) → Submitted callers number place one → Submitted callers number place other → one ≡ other
one_request callers number place one other a b =
    let same : a.caller ≡ b.caller = same_Some a.caller b.caller (sym a.is_caller ∙ b.is_caller) in
    let e : submission_at place a.caller.submitted ≡ submission_at place b.caller.submitted = ap (λ (c : Caller). submission_at place c.submitted) same in
    let is : a.submission ≡ b.submission = same_Some a.submission b.submission (sym a.is_submission ∙ e ∙ b.is_submission) in
    sym a.is_request ∙ ap (λ (s : Submission). s.request) is ∙ b.is_request

-- all numbers up to the floor are settled
floor_upto_settled : (caller : Caller) (upto place : ℕ) → 1 ≤ place → place ≤ floor_upto caller upto → is_settled caller place ≡ true
unfolding floor_upto
floor_upto_settled caller zero place low high = absurd (omega arith)
floor_upto_settled caller (suc upto) place low high =
    let test : Bool = eqb (floor_upto caller upto) upto && is_settled caller (suc upto) in
    by_test test
    (λ t.
    let parts = and_parts (eqb (floor_upto caller upto) upto) (is_settled caller (suc upto)) t in
    let at : floor_upto caller upto ≡ upto = eqb-true (floor_upto caller upto) upto parts.0 in
    let whole : cond test (suc upto) (floor_upto caller upto) ≡ suc upto = cond-true test (suc upto) (floor_upto caller upto) t in
    let below : place ≤ suc upto = subst (λ n. place ≤ n) whole high in
    ⊎_elim (λ same. subst (λ n. is_settled caller n ≡ true) (sym same) parts.1)
    (λ apart. floor_upto_settled caller upto place low (omega arith))
    (cases_eq place (suc upto)))
    (λ f.
    let whole : cond test (suc upto) (floor_upto caller upto) ≡ floor_upto caller upto = cond-false test (suc upto) (floor_upto caller upto) f in
    floor_upto_settled caller upto place low (subst (λ n. place ≤ n) whole high))

pub floor_settled : (caller : Caller) (place : ℕ) → 1 ≤ place → place ≤ floor_of caller → is_settled caller place ≡ true
floor_settled caller place low high = floor_upto_settled caller (length caller.submitted) place low high

-- what a submission had seen is unchanged as its caller grows
pub seen_grown : (old new : Caller) → Grown old new → (submission : Submission) → submission.mine_seen ≤ length old.mine → submission.told_seen ≤ length old.told
    → seen_at new submission ≡ seen_at old submission
seen_grown old new grown submission mine_low told_low =
    ap₂ ◌++◌
    (ap (take submission.mine_seen) (grown.mine).1 ∙ take-append-le submission.mine_seen old.mine (grown.mine).0 mine_low)
    (ap (take submission.told_seen) (grown.told).1 ∙ take-append-le submission.told_seen old.told (grown.told).0 told_low)

-- the floor is the greatest such number, and does not fall

floor_low : (caller : Caller) (upto : ℕ) → floor_upto caller upto ≤ upto
unfolding floor_upto
floor_low caller zero = omega arith
floor_low caller (suc upto) =
    let test : Bool = eqb (floor_upto caller upto) upto && is_settled caller (suc upto) in
    by_test test
    (λ t. let whole : cond test (suc upto) (floor_upto caller upto) ≡ suc upto = cond-true test (suc upto) (floor_upto caller upto) t in
    subst (λ n. n ≤ suc upto) (sym whole) (omega arith))
    (λ f. let whole : cond test (suc upto) (floor_upto caller upto) ≡ floor_upto caller upto = cond-false test (suc upto) (floor_upto caller upto) f in
    subst (λ n. n ≤ suc upto) (sym whole) (omega (arith, floor_low caller upto)))

floor_steps : (caller : Caller) (upto : ℕ) → floor_upto caller upto ≤ floor_upto caller (suc upto)
unfolding floor_upto
floor_steps caller upto =
    let test : Bool = eqb (floor_upto caller upto) upto && is_settled caller (suc upto) in
    by_test test
    (λ t. let whole : cond test (suc upto) (floor_upto caller upto) ≡ suc upto = cond-true test (suc upto) (floor_upto caller upto) t in
    subst (λ n. floor_upto caller upto ≤ n) (sym whole) (omega (arith, floor_low caller upto)))
    (λ f. let whole : cond test (suc upto) (floor_upto caller upto) ≡ floor_upto caller upto = cond-false test (suc upto) (floor_upto caller upto) f in
    subst (λ n. floor_upto caller upto ≤ n) (sym whole) (omega arith))

floor_full : (caller : Caller) (upto : ℕ) → floor_upto caller upto ≡ upto → is_settled caller (suc upto) ≡ true → floor_upto caller (suc upto) ≡ suc upto
unfolding floor_upto
floor_full caller upto e settled =
    cond-true (eqb (floor_upto caller upto) upto && is_settled caller (suc upto)) (suc upto) (floor_upto caller upto)
    (and_from (eqb (floor_upto caller upto) upto) (is_settled caller (suc upto)) (eq-eqb (floor_upto caller upto) upto e) settled)

floor_reaches : (caller : Caller) (upto floor : ℕ) → floor ≤ upto → ((place : ℕ) → 1 ≤ place → place ≤ floor → is_settled caller place ≡ true)
    → floor ≤ floor_upto caller upto
floor_reaches caller zero floor low settled = omega arith
floor_reaches caller (suc upto) floor low settled =
    ⊎_elim
    (λ same.
    let before : upto ≤ floor_upto caller upto = floor_reaches caller upto upto (omega arith) (λ place a b. settled place a (omega arith)) in
    let e : floor_upto caller upto ≡ upto = omega (arith, floor_low caller upto) in
    let last : is_settled caller (suc upto) ≡ true = settled (suc upto) (omega arith) (omega arith) in
    omega (arith, floor_full caller upto e last))
    (λ apart.
    let before : floor ≤ floor_upto caller upto = floor_reaches caller upto floor (omega arith) settled in
    omega (arith, floor_steps caller upto))
    (cases_eq floor (suc upto))

pub floor_within : (caller : Caller) → floor_of caller ≤ length caller.submitted
floor_within caller = floor_low caller (length caller.submitted)

pub floor_grown : (old new : Caller) → Grown old new → floor_of old ≤ floor_of new
floor_grown old new grown =
    let longer : length new.submitted ≡ length old.submitted + length (grown.submitted).0 =
    ap length (grown.submitted).1 ∙ length-append old.submitted (grown.submitted).0 in
    floor_reaches new (length new.submitted) (floor_of old) (omega (arith, floor_within old))
    (λ place low high. settled_grown old new grown place (floor_settled old place low high))
