-- What a caller stores of each submitted request: the request while it waits, then the index of its
-- taken call, or that it was given up.
use Rattle.std.specs.Prelude.{◌≡◌, ℕ, zero, suc, ◌+◌, ◌≤◌, Bool, true, false, Option, None, Some, List, [], ◌∷◌, ◌++◌, map, length, slice_get, slice_set}
use Rattle.chord_map.specs.declared.request.Request.{Request}
use Rattle.chord_map.specs.declared.request.Request.TheVariants.{Retrieve}
use Rattle.chord_map.specs.declared.done.Done.{Done}
use Rattle.chord_caller.specs.declared.submitted.RequestProgress.{RequestProgress}
use Rattle.chord_caller.specs.declared.submitted.RequestProgress.TheVariants.{Pending, Taken, GivenUp}
use Rattle.chord_caller.specs.declared.submitted.Submitted.{Submitted}
use Rattle.chord_caller.specs.declared.told.Told.{Told}
use Rattle.chord_caller.specs.Caller.{Submission, Caller}

-- the entry of the request of this number
abbrev pub submitted_at : ℕ → List Submitted → Option Submitted
submitted_at zero submitted = None
submitted_at (suc place) submitted = slice_get submitted place

-- the progress of an entry
abbrev pub progress_of : Option Submitted → Option RequestProgress
progress_of None = None
progress_of (Some entry) = Some entry.progress

abbrev pub progress_at : ℕ → List Submitted → Option RequestProgress
progress_at number submitted = progress_of (submitted_at number submitted)

-- whether the reply was taken
abbrev pub has_reply : Option RequestProgress → Bool
has_reply None = false
has_reply (Some (Pending request)) = false
has_reply (Some (Taken place)) = true
has_reply (Some (GivenUp request)) = false

-- whether the request was given up
abbrev pub was_given_up : Option RequestProgress → Bool
was_given_up None = false
was_given_up (Some (Pending request)) = false
was_given_up (Some (Taken place)) = false
was_given_up (Some (GivenUp request)) = true

-- whether the request is settled: its reply was taken, or it was given up
abbrev pub is_over : Option RequestProgress → Bool
is_over None = false
is_over (Some (Pending request)) = false
is_over (Some (Taken place)) = true
is_over (Some (GivenUp request)) = true

-- the requests of all numbers up to this one are settled
abbrev pub AreSettled : ℕ → List Submitted → Type 0
AreSettled floor submitted = (number : ℕ) → 1 ≤ number → number ≤ floor → is_over (progress_at number submitted) ≡ true

-- this is the greatest number with the requests of all numbers up to it settled
pub record IsFloor (floor : ℕ) (submitted : List Submitted) : Type 0 where
  pub within : floor ≤ length submitted
  pub settled : AreSettled floor submitted
  pub next : is_over (progress_at (suc floor) submitted) ≡ false

-- entries and taken calls agree: each taken entry has the index of its call, and the reverse
pub record IsTied (caller : ℕ) (submitted : List Submitted) (mine : List Done) : Type 0 where
  pub stands : (number place : ℕ) → progress_at number submitted ≡ Some (Taken place)
      → (done : Done) × (slice_get mine place ≡ Some done) × (done.caller ≡ caller) × (done.number ≡ number)
  pub taken : (place : ℕ) (done : Done) → slice_get mine place ≡ Some done → progress_at done.number submitted ≡ Some (Taken place)

-- what holds of every caller
pub record IsCaller (caller window floor : ℕ) (submitted : List Submitted) (mine : List Done) : Type 0 where
  pub some_window : 1 ≤ window
  pub small_window : window ≤ 16
  pub floor_is : IsFloor floor submitted
  pub near : length submitted ≤ floor + window
  pub tied : IsTied caller submitted mine

-- the request of a taken call
abbrev pub request_in : Option Done → Request
request_in None = Retrieve []
request_in (Some done) = done.request

abbrev pub request_of : List Done → RequestProgress → Request
request_of mine (Pending request) = request
request_of mine (Taken place) = request_in (slice_get mine place)
request_of mine (GivenUp request) = request

abbrev pub submission_of : List Done → Submitted → Submission
submission_of mine entry = record { request = request_of mine entry.progress; mine_seen = entry.mine_seen; told_seen = entry.told_seen }

-- the numbers, with this one first if the flag is set
abbrev pub number_if : Bool → ℕ → List ℕ → List ℕ
number_if true number rest = number ∷ rest
number_if false number rest = rest

-- the numbers of the requests that were given up, if `before` requests come before these
abbrev pub given_up_from : ℕ → List Submitted → List ℕ
given_up_from before [] = []
given_up_from before (entry ∷ rest) = number_if (was_given_up (Some entry.progress)) (suc before) (given_up_from (suc before) rest)

-- a caller made of these fields
abbrev pub caller_of : ℕ → ℕ → List Submitted → List Done → List Done → Caller
caller_of number window submitted mine told = record {
  number = number;
  window = window;
  submitted = map (submission_of mine) submitted;
  mine = mine;
  told = told;
  given_up = given_up_from 0 submitted;
}

-- the request of this number waits for its reply
abbrev pub IsPending : ℕ → List Submitted → Type 0
IsPending number submitted = (request : Request) × (progress_at number submitted ≡ Some (Pending request))

-- The reply's pending request becomes taken: its call with the reply goes to the end of the taken
-- calls, and its entry has the index there.
pub record Settles (told : Told) (submitted : List Submitted) (mine : List Done) (submitted' : List Submitted) (mine' : List Done) : Type 0 where
  pub request : Request
  pub place : ℕ
  pub entry : Submitted
  pub number_is : told.number ≡ suc place
  pub entry_is : slice_get submitted place ≡ Some entry
  pub waits : entry.progress ≡ Pending request
  pub submitted_is : submitted' ≡ slice_set submitted place (record entry { progress = Taken (length mine) })
  pub mine_is : mine' ≡ mine ++ record { caller = told.caller; number = told.number; request = request; reply = told.reply } ∷ []

-- The pending request of this number is one that was given up.
pub record GivesUp (number : ℕ) (submitted submitted' : List Submitted) : Type 0 where
  pub request : Request
  pub place : ℕ
  pub entry : Submitted
  pub number_is : number ≡ suc place
  pub entry_is : slice_get submitted place ≡ Some entry
  pub waits : entry.progress ≡ Pending request
  pub submitted_is : submitted' ≡ slice_set submitted place (record entry { progress = GivenUp request })
