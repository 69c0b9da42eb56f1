-- What each call of a caller's core answers.
use Rattle.std.specs.Prelude.{◌≡◌, ◌≢◌, ℕ, ◌+◌, ◌^◌, ◌<◌, ◌≤◌, Bool, true, false, not, ◌&&◌, ◌⊎◌, Option, None, Some, is_some, [], Result, Ok, Err}
use Rattle.chord_map.specs.declared.request.Request.{Request}
use Rattle.chord_map.specs.Map.{fits}
use Rattle.chord_map.specs.Checked.{IsRequest, HasFault}
use Rattle.chord_caller.specs.declared.ask.Ask.{Ask}
use Rattle.chord_caller.specs.declared.told.Told.{Told}
use Rattle.chord_caller.specs.declared.fault.SubmitFault.{SubmitFault}
use Rattle.chord_caller.specs.declared.fault.SubmitFault.TheVariants.{Bad, WindowFull, NumbersSpent, Memory as SubmitMemory}
use Rattle.chord_caller.specs.declared.fault.ResendFault.{ResendFault}
use Rattle.chord_caller.specs.declared.fault.ResendFault.TheVariants.{Idle, Memory as ResendMemory}
use Rattle.chord_caller.specs.declared.fault.TakeFault.{TakeFault}
use Rattle.chord_caller.specs.declared.fault.TakeFault.TheVariants.{Foreign, Memory as TakeMemory}
use Rattle.chord_caller.specs.declared.heard.Heard.{Heard}
use Rattle.chord_caller.specs.declared.heard.Heard.TheVariants.{Fresh, Known}
use Rattle.chord_caller.specs.Caller.{Submission, Caller, submission_at, is_settled, floor_of, IsSentNow, next_number, with_request, with_reply, fresh_for}

-- a caller that has submitted nothing
abbrev pub new_caller : ℕ → ℕ → Caller
new_caller number window = record { number = number; window = window; submitted = []; mine = []; told = []; given_up = [] }

-- the request of this number waits for its reply: it was submitted, and is not settled
abbrev pub is_pending : ℕ → Caller → Bool
is_pending number caller = is_some (submission_at number caller.submitted) && not (is_settled caller number)

-- the least pending number, or None if no request is pending
abbrev pub PendingIs : Caller → Option ℕ → Type 0
PendingIs caller None = (number : ℕ) → is_pending number caller ≡ false
PendingIs caller (Some least) = (is_pending least caller ≡ true) × ((number : ℕ) → number < least → is_pending number caller ≡ false)

-- the next number is within the window
abbrev pub HasWindow : Caller → Type 0
HasWindow caller = next_number caller ≤ floor_of caller + caller.window

-- The request goes out under the next number; or the first refusal that applies is answered, and
-- nothing changes
abbrev pub SubmitIs : Request → Caller → Result Ask SubmitFault → Caller → Type 0
SubmitIs request old (Ok ask) new =
    IsRequest request × HasWindow old × (next_number old < 2 ^ 64) × IsSentNow old (next_number old) request ask × (new ≡ with_request request old)
SubmitIs request old (Err (Bad fault)) new = HasFault request fault × (new ≡ old)
SubmitIs request old (Err WindowFull) new = IsRequest request × (floor_of old + old.window < next_number old) × (new ≡ old)
SubmitIs request old (Err NumbersSpent) new = IsRequest request × HasWindow old × (2 ^ 64 ≤ next_number old) × (new ≡ old)
SubmitIs request old (Err SubmitMemory) new = IsRequest request × HasWindow old × (next_number old < 2 ^ 64) × (new ≡ old)

-- Some: `submit` would refuse with this fault, never
-- Memory. None: `submit` can fail for memory only
abbrev pub RefusalIs : Request → Caller → Option SubmitFault → Type 0
RefusalIs request caller None = SubmitIs request caller (Err SubmitMemory) caller
RefusalIs request caller (Some fault) = SubmitIs request caller (Err fault) caller × (fault ≢ SubmitMemory)

-- The pending request of this number is sent again
abbrev pub ResendIs : ℕ → Caller → Result Ask ResendFault → Type 0
ResendIs number caller (Ok ask) =
    (submission : Submission) × (submission_at number caller.submitted ≡ Some submission) × (is_settled caller number ≡ false) × IsSentNow caller number submission.request ask
ResendIs number caller (Err Idle) = is_pending number caller ≡ false
ResendIs number caller (Err ResendMemory) = is_pending number caller ≡ true

-- the reply is another caller's, is to a number never
-- submitted, or does not fit its pending request
abbrev pub IsForeign : Told → Caller → Type 0
IsForeign told caller =
    (told.caller ≢ caller.number)
    ⊎ (submission_at told.number caller.submitted ≡ None)
    ⊎ ((submission : Submission) × (submission_at told.number caller.submitted ≡ Some submission) × (is_settled caller told.number ≡ false) × (fits told.reply submission.request ≡ false))

-- A reply to a pending request is taken; one to a request
-- already settled changes nothing; any other is foreign
abbrev pub TakeIs : Told → Caller → Result Heard TakeFault → Caller → Type 0
TakeIs told old (Ok Fresh) new = (request : Request) × (fresh_for told old ≡ Some request) × (new ≡ with_reply told request old)
TakeIs told old (Ok Known) new = (told.caller ≡ old.number) × (is_settled old told.number ≡ true) × (new ≡ old)
TakeIs told old (Err Foreign) new = IsForeign told old × (new ≡ old)
TakeIs told old (Err TakeMemory) new = (request : Request) × (fresh_for told old ≡ Some request) × (new ≡ old)
