-- A caller's fields after a new request.
use Rattle.std.proofs.Common.{◌≡◌, ℕ, zero, suc, ◌+◌, ◌≤◌, Some, List, [], ◌∷◌, ◌++◌, map, length, length-append, slice_get, refl, ◌∙◌, ap, ap₂, arith}
use Rattle.std.proofs.lemmas.List.{map-append}
use Rattle.std.proofs.lemmas.Option.{none-some}
use Rattle.chord_map.specs.declared.request.Request.{Request}
use Rattle.chord_map.specs.declared.done.Done.{Done}
use Rattle.chord_caller.specs.declared.submitted.RequestProgress.{RequestProgress}
use Rattle.chord_caller.specs.declared.submitted.RequestProgress.TheVariants.{Pending, Taken}
use Rattle.chord_caller.specs.declared.submitted.Submitted.{Submitted}
use Rattle.chord_caller.specs.Caller.{Submission, with_request}
use Rattle.chord_caller.specs.Submitted.{progress_of, progress_at, was_given_up, is_over, IsCaller, submission_of, given_up_from, caller_of}
use Rattle.chord_caller.proofs.GivenUp.{given_up_pushed}

over_pushed_at : (submitted : List Submitted) (entry : Submitted) (request : Request) → entry.progress ≡ Pending request → (place : ℕ)
    → is_over (progress_of (slice_get (submitted ++ entry ∷ []) place)) ≡ is_over (progress_of (slice_get submitted place))
over_pushed_at [] entry request new zero = ap (λ p. is_over (Some p)) new
over_pushed_at [] entry request new (suc place) = refl
over_pushed_at (first ∷ rest) entry request new zero = refl
over_pushed_at (first ∷ rest) entry request new (suc place) = over_pushed_at rest entry request new place

-- a new request is not over, and the others are as before
over_pushed : (submitted : List Submitted) (entry : Submitted) (request : Request) → entry.progress ≡ Pending request → (number : ℕ)
    → is_over (progress_at number (submitted ++ entry ∷ [])) ≡ is_over (progress_at number submitted)
over_pushed submitted entry request new zero = refl
over_pushed submitted entry request new (suc place) = over_pushed_at submitted entry request new place

taken_before_at : (submitted : List Submitted) (entry : Submitted) (request : Request) → entry.progress ≡ Pending request → (place into : ℕ)
    → progress_of (slice_get (submitted ++ entry ∷ []) place) ≡ Some (Taken into) → progress_of (slice_get submitted place) ≡ Some (Taken into)
taken_before_at [] entry request new zero into e = cc
taken_before_at [] entry request new (suc place) into e = e
taken_before_at (first ∷ rest) entry request new zero into e = e
taken_before_at (first ∷ rest) entry request new (suc place) into e = taken_before_at rest entry request new place into e

taken_before : (submitted : List Submitted) (entry : Submitted) (request : Request) → entry.progress ≡ Pending request → (number into : ℕ)
    → progress_at number (submitted ++ entry ∷ []) ≡ Some (Taken into) → progress_at number submitted ≡ Some (Taken into)
taken_before submitted entry request new zero into e = e
taken_before submitted entry request new (suc place) into e = taken_before_at submitted entry request new place into e

progress_left_at : (submitted more : List Submitted) (place : ℕ) (progress : RequestProgress) → progress_of (slice_get submitted place) ≡ Some progress
    → progress_of (slice_get (submitted ++ more) place) ≡ Some progress
progress_left_at [] more place progress e = absurd (none-some progress e)
progress_left_at (first ∷ rest) more zero progress e = e
progress_left_at (first ∷ rest) more (suc place) progress e = progress_left_at rest more place progress e

progress_left : (submitted more : List Submitted) (number : ℕ) (progress : RequestProgress) → progress_at number submitted ≡ Some progress
    → progress_at number (submitted ++ more) ≡ Some progress
progress_left submitted more zero progress e = e
progress_left submitted more (suc place) progress e = progress_left_at submitted more place progress e

-- a caller keeps its rules with one more request
pub submit_keeps : (caller window floor : ℕ) (submitted : List Submitted) (mine : List Done) (entry : Submitted) (request : Request) → entry.progress ≡ Pending request
    → length submitted + 1 ≤ floor + window → IsCaller caller window floor submitted mine → IsCaller caller window floor (submitted ++ entry ∷ []) mine
submit_keeps caller window floor submitted mine entry request new within h =
    let floors = h.floor_is in
    let ties = h.tied in
    record {
      some_window = h.some_window;
      small_window = h.small_window;
      floor_is = record {
        within = let w = floors.within in simp length-append (omega arith);
        settled = λ number low high. over_pushed submitted entry request new number ∙ floors.settled number low high;
        next = over_pushed submitted entry request new (suc floor) ∙ floors.next;
      };
      near = simp length-append (omega arith);
      tied = record {
        stands = λ number place e. ties.stands number place (taken_before submitted entry request new number place e);
        taken = λ place done e. progress_left submitted (entry ∷ []) done.number (Taken place) (ties.taken place done e);
      };
    }

-- the fields after a submission are those of the caller with one more request
pub submitted_is : (caller window : ℕ) (submitted : List Submitted) (mine told : List Done) (entry : Submitted) (request : Request)
    → entry ≡ record { progress = Pending request; mine_seen = length mine; told_seen = length told }
    → caller_of caller window (submitted ++ entry ∷ []) mine told ≡ with_request request (caller_of caller window submitted mine told)
submitted_is caller window submitted mine told entry request e =
    let f = submission_of mine in
    let pushed = map-append f submitted (entry ∷ []) in
    let last : f entry ≡ record { request = request; mine_seen = length mine; told_seen = length told } = ap f e in
    let gone : given_up_from 0 (submitted ++ entry ∷ []) ≡ given_up_from 0 submitted =
    given_up_pushed 0 submitted entry (ap (λ (e : Submitted). was_given_up (Some e.progress)) e) in
    ap₂ (λ (all : List Submission) (numbers : List ℕ). record { number = caller; window = window; submitted = all; mine = mine; told = told; given_up = numbers })
    (pushed ∙ ap (λ s. map f submitted ++ s ∷ []) last) gone
