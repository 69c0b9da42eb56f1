-- What a caller's fields say of the caller of the definitions.
use Rattle.std.proofs.Common.{◌≡◌, ℕ, zero, suc, ◌+◌, ◌<◌, ◌≤◌, ⊎_elim, Bool, true, false, not, ◌&&◌, eqb, Option, None, Some, is_some, List, [], ◌∷◌, ◌++◌, length, slice_get, option_map, refl, sym, ◌∙◌, ap, ap₂, add-one, arith}
use Rattle.chord_map.specs.declared.request.Request.{Request}
use Rattle.chord_caller.specs.declared.submitted.RequestProgress.TheVariants.{Pending, Taken}
use Rattle.std.proofs.lemmas.List.{length-map}
use Rattle.std.proofs.lemmas.Bool.{cond-true, cond-false, and_from, true≢false, cases_lt}
use Rattle.std.proofs.lemmas.Option.{none-some, slice_get_within}
use Rattle.chord_map.specs.Map.{fits}
use Rattle.chord_map.specs.declared.done.Done.{Done}
use Rattle.chord_map.specs.History.{done_at}
use Rattle.chord_map.proofs.Equal.{eqb_same}
use Rattle.chord_caller.specs.declared.told.Told.{Told}
use Rattle.chord_caller.specs.declared.submitted.Submitted.{Submitted}
use Rattle.chord_caller.specs.Caller.{Submission, Caller, submission_at, is_taken, is_settled, floor_of, next_number, with_request, request_for_reply, fresh_for}
use Rattle.chord_caller.specs.Submitted.{submitted_at, progress_of, progress_at, has_reply, is_over, IsFloor, IsTied, IsCaller, submission_of, caller_of}
use Rattle.chord_caller.specs.Answers.{is_pending}
use Rattle.chord_caller.proofs.Floors.{found_at, absent_at, is_settled_is, floor_of_is}
use Rattle.chord_caller.proofs.Places.{got_last}
use Rattle.chord_caller.proofs.Waiting.{got_beyond, is_waiting, submission_at_is, is_pending_is}

-- the caller's number, window, floor and next number
pub record Shows (number window floor count : ℕ) (caller : Caller) : Type 0 where
  pub number_is : number ≡ caller.number
  pub window_is : window ≡ caller.window
  pub floor_is : floor ≡ floor_of caller
  pub next_is : count + 1 ≡ next_number caller

pub shows : (number window floor : ℕ) (submitted : List Submitted) (mine told : List Done) (caller : Caller) → caller_of number window submitted mine told ≡ caller
    → IsTied number submitted mine → IsFloor floor submitted → Shows number window floor (length submitted) caller
shows number window floor submitted mine told caller view tied floors = record {
  number_is = ap (λ (c : Caller). c.number) view;
  window_is = ap (λ (c : Caller). c.window) view;
  floor_is = sym (floor_of_is number window floor submitted mine told tied floors) ∙ ap floor_of view;
  next_is = ap (λ n. n + 1) (sym (length-map submitted (submission_of mine))) ∙ ap next_number view;
}

-- a number is pending if its request waits
pub pending_asked : (number window : ℕ) (submitted : List Submitted) (mine told : List Done) (caller : Caller) → caller_of number window submitted mine told ≡ caller
    → IsTied number submitted mine → (asked : ℕ) (o : Option Submitted) → o ≡ submitted_at asked submitted → is_waiting (progress_of o) ≡ is_pending asked caller
pending_asked number window submitted mine told caller view tied asked o e =
    ap (λ s. is_waiting (progress_of s)) e ∙ sym (is_pending_is number window submitted mine told tied asked) ∙ ap (is_pending asked) view

-- a number is settled if its request is over
pub settled_asked : (number window : ℕ) (submitted : List Submitted) (mine told : List Done) (caller : Caller) → caller_of number window submitted mine told ≡ caller
    → IsTied number submitted mine → (asked : ℕ) (o : Option Submitted) → o ≡ submitted_at asked submitted → is_settled caller asked ≡ is_over (progress_of o)
settled_asked number window submitted mine told caller view tied asked o e =
    ap (λ c. is_settled c asked) (sym view) ∙ is_settled_is number window submitted mine told tied asked ∙ ap (λ s. is_over (progress_of s)) (sym e)

settled_before : (caller : Caller) (request : Request) (asked : ℕ) → is_settled (with_request request caller) asked ≡ is_settled caller asked
unfolding is_settled is_taken
settled_before caller request asked = refl

submission_last : (submitted : List Submission) (last : Submission) → submission_at (length submitted + 1) (submitted ++ last ∷ []) ≡ Some last
submission_last submitted last = rw add-one (got_last submitted last)

-- a request that was just submitted waits
pub next_waits : (number window : ℕ) (submitted : List Submitted) (mine told : List Done) (caller : Caller) → caller_of number window submitted mine told ≡ caller
    → IsTied number submitted mine → (request : Request) → is_pending (next_number caller) (with_request request caller) ≡ true
next_waits number window submitted mine told caller view tied request =
    let same : length caller.submitted ≡ length submitted = ap (λ (c : Caller). length c.submitted) (sym view) ∙ length-map submitted (submission_of mine) in
    let beyond : None ≡ submitted_at (length submitted + 1) submitted = rw add-one (sym (got_beyond submitted (length submitted) (omega arith))) in
    let free : is_settled caller (next_number caller) ≡ false =
    ap (λ n. is_settled caller (n + 1)) same ∙ settled_asked number window submitted mine told caller view tied (length submitted + 1) None beyond in
    ap₂ (λ o b. is_some o && not b) (submission_last caller.submitted (record { request = request; mine_seen = length caller.mine; told_seen = length caller.told }))
    (settled_before caller request (next_number caller) ∙ free)

-- the call of a number is at the index in its entry
pub found_asked : (number window : ℕ) (submitted : List Submitted) (mine told : List Done) (caller : Caller) → caller_of number window submitted mine told ≡ caller
    → IsTied number submitted mine → (asked place : ℕ) → progress_at asked submitted ≡ Some (Taken place) → slice_get mine place ≡ done_at caller.number asked caller.mine
found_asked number window submitted mine told caller view tied asked place e =
    found_at number submitted mine tied asked place e ∙ ap (λ (c : Caller). done_at c.number asked c.mine) view

-- a number without an entry that has a reply has no taken call
pub absent_asked : (number window : ℕ) (submitted : List Submitted) (mine told : List Done) (caller : Caller) → caller_of number window submitted mine told ≡ caller
    → IsTied number submitted mine → (asked : ℕ) → has_reply (progress_at asked submitted) ≡ false → None ≡ done_at caller.number asked caller.mine
absent_asked number window submitted mine told caller view tied asked e =
    absent_at number submitted mine tied asked e ∙ ap (λ (c : Caller). done_at c.number asked c.mine) view

-- the submission of a number is that of its entry
pub submission_asked : (number window : ℕ) (submitted : List Submitted) (mine told : List Done) (caller : Caller) → caller_of number window submitted mine told ≡ caller
    → (asked : ℕ) (o : Option Submitted) → o ≡ submitted_at asked submitted → submission_at asked caller.submitted ≡ option_map (submission_of mine) o
submission_asked number window submitted mine told caller view asked o e =
    ap (λ (c : Caller). submission_at asked c.submitted) (sym view) ∙ submission_at_is mine submitted asked ∙ ap (option_map (submission_of mine)) (sym e)

fitting_is : (told : Told) (o : Option Submission) (submission : Submission) → o ≡ Some submission → fits told.reply submission.request ≡ true → request_for_reply told.reply o ≡ Some submission.request
fitting_is told o submission e fit = ap (request_for_reply told.reply) e ∙ cond-true (fits told.reply submission.request) (Some submission.request) None fit

-- the pending request that a reply fits
pub fresh_is : (told : Told) (caller : Caller) (submission : Submission) → told.caller ≡ caller.number → is_settled caller told.number ≡ false
    → submission_at told.number caller.submitted ≡ Some submission → fits told.reply submission.request ≡ true → fresh_for told caller ≡ Some submission.request
unfolding fresh_for
fresh_is told caller submission own waits at fit =
    cond-true (eqb told.caller caller.number && not (is_settled caller told.number)) (request_for_reply told.reply (submission_at told.number caller.submitted)) None
    (and_from (eqb told.caller caller.number) (not (is_settled caller told.number)) (eqb_same told.caller caller.number own) (ap not waits))
    ∙ fitting_is told (submission_at told.number caller.submitted) submission at fit

-- a reply to a settled call is not fresh
pub known_stale : (told : Told) (caller : Caller) → is_settled caller told.number ≡ true → fresh_for told caller ≡ None
unfolding fresh_for
known_stale told caller settled =
    cond-false (eqb told.caller caller.number && not (is_settled caller told.number)) (request_for_reply told.reply (submission_at told.number caller.submitted)) None
    (off (eqb told.caller caller.number) (is_settled caller told.number) settled)
  where
    off : (own settled : Bool) → settled ≡ true → (own && not settled) ≡ false
    off true true e = refl
    off true false e = cc
    off false settled e = refl

-- a pending number is above the floor and at most 16 above it
pub within_window : (caller window floor : ℕ) (submitted : List Submitted) (mine : List Done) → IsCaller caller window floor submitted mine
    → (number : ℕ) (entry : Submitted) (request : Request) → Some entry ≡ submitted_at number submitted → entry.progress ≡ Pending request → (floor < number) × (number ≤ floor + 16)
within_window caller window floor submitted mine h zero entry request at waits = absurd (none-some entry (sym at))
within_window caller window floor submitted mine h (suc place) entry request at waits =
    let not_over : is_over (progress_at (suc place) submitted) ≡ false = ap (λ o. is_over (progress_of o)) (sym at) ∙ ap (λ p. is_over (Some p)) waits in
    let low : floor < suc place =
    ⊎_elim (λ (above : floor < suc place). above) (λ (below : suc place ≤ floor). absurd (true≢false (sym ((h.floor_is).settled (suc place) (omega arith) below) ∙ not_over))) (cases_lt floor (suc place)) in
    let high : place < length submitted = slice_get_within submitted place entry (sym at) in
    let near = h.near in
    let small = h.small_window in
    (low, omega arith)
