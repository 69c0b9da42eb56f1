-- Which calls of a caller are taken, which are settled, and its floor.
use Rattle.std.proofs.Common.{◌≡◌, ◌≢◌, ℕ, zero, suc, ◌<◌, ◌≤◌, min, Bool, true, false, cond, ◌&&◌, ◌||◌, eqb, Option, None, Some, List, length, is_some, slice_get, ◌⊎◌, inl, inr, ⊎_elim, refl, sym, ◌∙◌, ap, ap₂, arith}
use Rattle.std.proofs.lemmas.Bool.{true≢false, and_from, cases_lt}
use Rattle.std.proofs.lemmas.Bool.Decides.{eqb_tells}
use Rattle.std.proofs.lemmas.List.{length-map}
use Rattle.chord_map.proofs.Lists.{by_option, has_got, place_of, finds}
use Rattle.chord_map.specs.declared.done.Done.{Done}
use Rattle.chord_map.specs.History.{done_at}
use Rattle.chord_map.proofs.Equal.{eqb_same}
use Rattle.chord_map.proofs.HistoryLemmas.{done_is}
use Rattle.chord_caller.specs.declared.submitted.RequestProgress.{RequestProgress}
use Rattle.chord_caller.specs.declared.submitted.RequestProgress.TheVariants.{Pending, Taken, GivenUp}
use Rattle.chord_caller.specs.declared.submitted.Submitted.{Submitted}
use Rattle.chord_caller.specs.Caller.{Caller, is_taken, is_settled, floor_upto, floor_of}
use Rattle.chord_caller.specs.Submitted.{progress_at, has_reply, was_given_up, is_over, IsFloor, IsTied, submission_of, caller_of}
use Rattle.chord_caller.proofs.GivenUp.{among_is}

-- the reply to a request was taken, with an index, or was not
reply_cases : (o : Option RequestProgress) → ((place : ℕ) × (o ≡ Some (Taken place)) × (has_reply o ≡ true)) ⊎ (has_reply o ≡ false)
reply_cases None = inr refl
reply_cases (Some (Pending request)) = inr refl
reply_cases (Some (Taken place)) = inl (place, refl, refl)
reply_cases (Some (GivenUp request)) = inr refl

-- a request is over if its reply was taken or it was given up
over_is : (o : Option RequestProgress) → is_over o ≡ (has_reply o || was_given_up o)
over_is None = refl
over_is (Some (Pending request)) = refl
over_is (Some (Taken place)) = refl
over_is (Some (GivenUp request)) = refl

-- the call of a request whose reply was taken is among the taken calls
over_found : (caller : ℕ) (submitted : List Submitted) (mine : List Done) → IsTied caller submitted mine → (number place : ℕ)
    → progress_at number submitted ≡ Some (Taken place) → is_some (done_at caller number mine) ≡ true
unfolding done_at
over_found caller submitted mine tied number place e =
    let s = tied.stands number place e in
    let found = finds (λ (done : Done). eqb done.caller caller && eqb done.number number) mine s.0 (has_got mine place s.0 s.1)
    (and_from (eqb (s.0).caller caller) (eqb (s.0).number number) (eqb_same (s.0).caller caller s.2) (eqb_same (s.0).number number s.3)) in
    ap is_some found.1

-- the call of a request without a reply is not
not_over_absent : (caller : ℕ) (submitted : List Submitted) (mine : List Done) → IsTied caller submitted mine → (number : ℕ)
    → has_reply (progress_at number submitted) ≡ false → is_some (done_at caller number mine) ≡ false
not_over_absent caller submitted mine tied number e =
    by_option (done_at caller number mine)
    (λ none. ap is_some none)
    (λ done found.
    let parts = done_is caller number mine done found in
    let place = place_of mine done parts.2 in
    let taken : has_reply (progress_at done.number submitted) ≡ true = ap has_reply (tied.taken place.0 done place.1) in
    let same : has_reply (progress_at number submitted) ≡ true = ap (λ n. has_reply (progress_at n submitted)) (sym parts.1) ∙ taken in
    absurd (true≢false (sym same ∙ e)))

place_in : Option RequestProgress → ℕ
place_in (Some (Taken place)) = place
place_in other = 0

-- the call of a request whose reply was taken is at its index among the taken calls
pub found_at : (caller : ℕ) (submitted : List Submitted) (mine : List Done) → IsTied caller submitted mine → (number place : ℕ)
    → progress_at number submitted ≡ Some (Taken place) → slice_get mine place ≡ done_at caller number mine
unfolding place_in
found_at caller submitted mine tied number place e =
    by_option (done_at caller number mine)
    (λ none. absurd (true≢false (sym (over_found caller submitted mine tied number place e) ∙ ap is_some none)))
    (λ done found.
    let parts = done_is caller number mine done found in
    let here = place_of mine done parts.2 in
    let over = ap (λ n. progress_at n submitted) (sym parts.1) ∙ tied.taken here.0 done here.1 in
    let same : place ≡ here.0 = ap place_in (sym e ∙ over) in
    ap (slice_get mine) same ∙ here.1 ∙ sym found)

-- the call of a request without a reply is not among the taken calls
pub absent_at : (caller : ℕ) (submitted : List Submitted) (mine : List Done) → IsTied caller submitted mine → (number : ℕ)
    → has_reply (progress_at number submitted) ≡ false → None ≡ done_at caller number mine
absent_at caller submitted mine tied number e =
    by_option (done_at caller number mine)
    (λ none. sym none)
    (λ done found. absurd (true≢false (sym (ap is_some found) ∙ not_over_absent caller submitted mine tied number e)))

-- a call is taken exactly if its request has a reply
is_taken_is : (caller window : ℕ) (submitted : List Submitted) (mine told : List Done) → IsTied caller submitted mine → (number : ℕ)
    → is_taken (caller_of caller window submitted mine told) number ≡ has_reply (progress_at number submitted)
unfolding is_taken
is_taken_is caller window submitted mine told tied number =
    ⊎_elim
    (λ over. over_found caller submitted mine tied number over.0 over.1 ∙ sym over.2)
    (λ waits. not_over_absent caller submitted mine tied number waits ∙ sym waits)
    (reply_cases (progress_at number submitted))

-- a call is settled exactly if its request is over
pub is_settled_is : (caller window : ℕ) (submitted : List Submitted) (mine told : List Done) → IsTied caller submitted mine → (number : ℕ)
    → is_settled (caller_of caller window submitted mine told) number ≡ is_over (progress_at number submitted)
unfolding is_settled
is_settled_is caller window submitted mine told tied number =
    ap₂ (λ a b. a || b) (is_taken_is caller window submitted mine told tied number) (among_is submitted number) ∙ sym (over_is (progress_at number submitted))

upto_step : (f n floor : ℕ) (t : Bool) → f ≡ min n floor → (suc n ≤ floor → t ≡ true) → (n ≡ floor → t ≡ false) → cond (eqb f n && t) (suc n) f ≡ min (suc n) floor
upto_step f n floor true e low here =
    let apart : n ≢ floor = λ same. true≢false (here same) in
    ⊎_elim
    (λ yes. rw yes.0 (let same = yes.1 in omega arith))
    (λ no. rw no.0 (let other = no.1 in omega arith))
    (eqb_tells f n)
upto_step f n floor false e low here =
    let high : floor < suc n = ⊎_elim (λ below. below) (λ above. absurd (true≢false (sym (low above)))) (cases_lt floor (suc n)) in
    ⊎_elim
    (λ yes. rw yes.0 (omega arith))
    (λ no. rw no.0 (omega arith))
    (eqb_tells f n)

-- the floor is the number with all up to it settled and the next one not
pub upto_is : (caller : Caller) (floor : ℕ) → ((number : ℕ) → 1 ≤ number → number ≤ floor → is_settled caller number ≡ true) → is_settled caller (suc floor) ≡ false
    → (n : ℕ) → floor_upto caller n ≡ min n floor
unfolding floor_upto
upto_is caller floor settled next zero = omega arith
upto_is caller floor settled next (suc n) =
    upto_step (floor_upto caller n) n floor (is_settled caller (suc n)) (upto_is caller floor settled next n)
    (λ low. settled (suc n) (omega arith) low)
    (λ same. ap (λ m. is_settled caller (suc m)) same ∙ next)

pub floor_of_is : (caller window floor : ℕ) (submitted : List Submitted) (mine told : List Done) → IsTied caller submitted mine → IsFloor floor submitted
    → floor_of (caller_of caller window submitted mine told) ≡ floor
floor_of_is caller window floor submitted mine told tied h =
    let this = caller_of caller window submitted mine told in
    let e = upto_is this floor
    (λ number low high. is_settled_is caller window submitted mine told tied number ∙ h.settled number low high)
    (is_settled_is caller window submitted mine told tied (suc floor) ∙ h.next) (length this.submitted) in
    let n = length-map submitted (submission_of mine) in
    let w = h.within in
    e ∙ omega arith
