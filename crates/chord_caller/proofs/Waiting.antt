-- Which requests of a caller are pending.
use Rattle.std.proofs.Common.{◌≡◌, ◌≢◌, ℕ, zero, suc, ◌+◌, ◌<◌, ◌≤◌, Bool, true, false, not, ◌&&◌, Option, None, Some, List, [], ◌∷◌, map, length, slice_get, is_some, option_map, ⊎_elim, refl, sym, ◌∙◌, ap, ap₂, arith}
use Rattle.std.proofs.lemmas.Bool.{true≢false, cases_lt}
use Rattle.std.proofs.lemmas.Option.{slice_get-map}
use Rattle.chord_map.specs.declared.request.Request.{Request}
use Rattle.chord_map.specs.declared.done.Done.{Done}
use Rattle.chord_caller.specs.declared.submitted.RequestProgress.{RequestProgress}
use Rattle.chord_caller.specs.declared.submitted.RequestProgress.TheVariants.{Pending, Taken, GivenUp}
use Rattle.chord_caller.specs.declared.submitted.Submitted.{Submitted}
use Rattle.chord_caller.specs.Caller.{Caller, submission_at}
use Rattle.chord_caller.specs.Submitted.{submitted_at, progress_of, progress_at, is_over, IsFloor, IsTied, IsPending, submission_of, caller_of}
use Rattle.chord_caller.specs.Answers.{is_pending, PendingIs}
use Rattle.chord_caller.proofs.Floors.{is_settled_is}

-- the request waits
abbrev pub is_waiting : Option RequestProgress → Bool
is_waiting None = false
is_waiting (Some (Pending request)) = true
is_waiting (Some (Taken place)) = false
is_waiting (Some (GivenUp request)) = false

-- a request that is not pending does not wait, and is over
pub idle_unless : (progress : RequestProgress) → ((request : Request) → progress ≢ Pending request) → is_waiting (Some progress) ≡ false
idle_unless (Pending request) other = absurd (other request refl)
idle_unless (Taken place) other = refl
idle_unless (GivenUp request) other = refl

pub over_unless : (progress : RequestProgress) → ((request : Request) → progress ≢ Pending request) → is_over (Some progress) ≡ true
over_unless (Pending request) other = absurd (other request refl)
over_unless (Taken place) other = refl
over_unless (GivenUp request) other = refl

pub submission_at_is : (mine : List Done) (submitted : List Submitted) (number : ℕ)
    → submission_at number (map (submission_of mine) submitted) ≡ option_map (submission_of mine) (submitted_at number submitted)
submission_at_is mine submitted zero = refl
submission_at_is mine submitted (suc place) = slice_get-map (submission_of mine) submitted place

waits : (mine : List Done) (o : Option Submitted) → (is_some (option_map (submission_of mine) o) && not (is_over (progress_of o))) ≡ is_waiting (progress_of o)
waits mine None = refl
waits mine (Some entry) = by_progress entry.progress
  where
    by_progress : (progress : RequestProgress) → not (is_over (Some progress)) ≡ is_waiting (Some progress)
    by_progress (Pending request) = refl
    by_progress (Taken place) = refl
    by_progress (GivenUp request) = refl

-- a request is pending exactly if it waits
pub is_pending_is : (caller window : ℕ) (submitted : List Submitted) (mine told : List Done) → IsTied caller submitted mine → (number : ℕ)
    → is_pending number (caller_of caller window submitted mine told) ≡ is_waiting (progress_at number submitted)
is_pending_is caller window submitted mine told tied number =
    ap₂ (λ o b. is_some o && not b) (submission_at_is mine submitted number) (is_settled_is caller window submitted mine told tied number)
    ∙ waits mine (submitted_at number submitted)

over_waits : (o : Option RequestProgress) → is_over o ≡ true → is_waiting o ≡ false
over_waits None e = refl
over_waits (Some (Pending request)) e = absurd (true≢false (sym e))
over_waits (Some (Taken place)) e = refl
over_waits (Some (GivenUp request)) e = refl

there_waits : (entry : Option Submitted) → is_some entry ≡ true → is_over (progress_of entry) ≡ false → is_waiting (progress_of entry) ≡ true
there_waits None there e = absurd (true≢false (sym there))
there_waits (Some entry) there e = by_progress entry.progress e
  where
    by_progress : (progress : RequestProgress) → is_over (Some progress) ≡ false → is_waiting (Some progress) ≡ true
    by_progress (Pending request) e = refl
    by_progress (Taken place) e = absurd (true≢false e)
    by_progress (GivenUp request) e = absurd (true≢false e)

-- an index within a list has an element
pub got_within : {A : Type 0} (xs : List A) (place : ℕ) → place < length xs → is_some (slice_get xs place) ≡ true
got_within [] place low = absurd (omega arith)
got_within (x ∷ xs) zero low = refl
got_within (x ∷ xs) (suc place) low = got_within xs place (omega arith)

pub got_beyond : {A : Type 0} (xs : List A) (place : ℕ) → length xs ≤ place → slice_get xs place ≡ None
got_beyond [] place high = refl
got_beyond (x ∷ xs) zero high = absurd (omega arith)
got_beyond (x ∷ xs) (suc place) high = got_beyond xs place (omega arith)

low_waits : (floor : ℕ) (submitted : List Submitted) → IsFloor floor submitted → (number : ℕ) → number ≤ floor → is_waiting (progress_at number submitted) ≡ false
low_waits floor submitted h zero low = refl
low_waits floor submitted h (suc place) low = over_waits (progress_at (suc place) submitted) (h.settled (suc place) (omega arith) low)

-- if a request above the floor waits, the first such one is the least pending
pub pending_some : (caller window floor : ℕ) (submitted : List Submitted) (mine told : List Done) → IsTied caller submitted mine → IsFloor floor submitted
    → floor < length submitted → PendingIs (caller_of caller window submitted mine told) (Some (floor + 1))
pending_some caller window floor submitted mine told tied h low =
    let this = caller_of caller window submitted mine told in
    let is = is_pending_is caller window submitted mine told tied in
    let shift : floor + 1 ≡ suc floor = omega arith in
    let here : is_pending (suc floor) this ≡ true = is (suc floor) ∙ there_waits (slice_get submitted floor) (got_within submitted floor low) h.next in (
      ap (λ n. is_pending n this) shift ∙ here,
      λ number below. is number ∙ low_waits floor submitted h number (omega arith),
    )

-- if no request waits, none is pending
pub pending_none : (caller window floor : ℕ) (submitted : List Submitted) (mine told : List Done) → IsTied caller submitted mine → IsFloor floor submitted
    → length submitted ≤ floor → PendingIs (caller_of caller window submitted mine told) None
pending_none caller window floor submitted mine told tied h high number =
    is_pending_is caller window submitted mine told tied number
    ∙ ⊎_elim
    (λ above. beyond number above)
    (λ low. low_waits floor submitted h number low)
    (cases_lt floor number)
  where
    beyond : (number : ℕ) → floor < number → is_waiting (progress_at number submitted) ≡ false
    beyond zero above = absurd (omega arith)
    beyond (suc place) above = ap (λ o. is_waiting (progress_of o)) (got_beyond submitted place (omega arith))

waiting_slot : (o : Option RequestProgress) → is_waiting o ≡ true → (request : Request) × (o ≡ Some (Pending request))
waiting_slot None waits = absurd (true≢false (sym waits))
waiting_slot (Some (Pending request)) waits = (request, refl)
waiting_slot (Some (Taken place)) waits = absurd (true≢false (sym waits))
waiting_slot (Some (GivenUp request)) waits = absurd (true≢false (sym waits))

-- a number that is pending has a request that waits
pub pending_waits : (number window : ℕ) (submitted : List Submitted) (mine told : List Done) (caller : Caller) → caller_of number window submitted mine told ≡ caller
    → IsTied number submitted mine → (asked : ℕ) → is_pending asked caller ≡ true → IsPending asked submitted
pending_waits number window submitted mine told caller view tied asked pending =
    waiting_slot (progress_at asked submitted)
    (sym (is_pending_is number window submitted mine told tied asked) ∙ ap (is_pending asked) view ∙ pending)
