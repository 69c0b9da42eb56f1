-- A client: what a caller needs above its floor. Which callers it is the core of, and how its calls
-- are theirs.
use Rattle.std.specs.Prelude.{◌≡◌, ℕ, ◌+◌, ◌^◌, ◌<◌, ◌≤◌, false, if◌then◌else◌, Option, None, Some, option_map, List, length, slice_get, Result, Ok, Err}
use Rattle.chord_map.specs.declared.request.Request.{Request}
use Rattle.chord_caller.specs.declared.ask.Ask.{Ask}
use Rattle.chord_caller.specs.declared.fault.SubmitFault.{SubmitFault}
use Rattle.chord_caller.specs.declared.fault.TakeFault.{TakeFault}
use Rattle.chord_caller.specs.declared.fault.TakeFault.TheVariants as refused
use Rattle.chord_caller.specs.declared.heard.Heard.{Heard}
use Rattle.chord_caller.specs.declared.heard.Heard.TheVariants as heard
use Rattle.chord_caller.specs.declared.outcome.TakeOutcome.{TakeOutcome}
use Rattle.chord_caller.specs.declared.outcome.TakeOutcome.TheVariants.{Fresh, Known, Foreign}
use Rattle.chord_caller.specs.declared.request_state.RequestState.{RequestState}
use Rattle.chord_caller.specs.declared.request_state.RequestState.TheVariants.{Waiting, Over}
use Rattle.chord_caller.specs.declared.told.Told.{Told}
use Rattle.chord_caller.specs.Answers.{SubmitIs, TakeIs}
use Rattle.chord_caller.specs.Slots.{state_of, is_over}
use Rattle.chord_caller.specs.Caller.{Submission, Caller, Letter, CallerStep, submission_at, is_settled, floor_of, with_reply, fresh_for}

-- The slots are those of the numbers above the floor, in order
pub record Client : Type 0 where
  pub number : ℕ
  pub window : ℕ
  pub floor : ℕ
  pub states : List RequestState

-- a client with these fields
abbrev pub client_of : ℕ → ℕ → ℕ → List RequestState → Client
client_of number window floor states = record { number = number; window = window; floor = floor; states = states }

-- how many requests it submitted
abbrev pub count_of : Client → ℕ
count_of client = client.floor + length client.states

-- the slot of this number
abbrev pub state_at : ℕ → Client → Option RequestState
state_at number client = state_of client.floor client.states number

-- the slot that a client would have for this number of the caller
abbrev pub state_in : ℕ → Caller → Option RequestState
state_in number caller =
    if is_settled caller number then Some Over
    else option_map (λ (submission : Submission). Waiting submission.request) (submission_at number caller.submitted)

-- the client has what is above this caller's floor, whatever the caller took, gave up, saw and was told
pub record IsCoreOf (client : Client) (caller : Caller) : Type 0 where
  pub number_is : client.number ≡ caller.number
  pub window_is : client.window ≡ caller.window
  pub floor_is : client.floor ≡ floor_of caller
  pub count_is : count_of client ≡ length caller.submitted
  pub slots_are : (number : ℕ) → state_at number client ≡ state_in number caller

-- what holds of every client: some caller has this core, and it has room for exactly its window
pub record IsClient (room : ℕ) (client : Client) : Type 0 where
  pub some_window : 1 ≤ client.window
  pub small_window : client.window ≤ 16
  pub near : length client.states ≤ client.window
  pub room_is : room ≡ client.window
  pub numbered : count_of client < 2 ^ 64
  pub next : is_over (slice_get client.states 0) ≡ false
  pub caller : Caller
  pub core : IsCoreOf client caller

-- each caller with core `old` answers alike, and then has core `new`
abbrev pub SubmitsAlike : Request → Client → Result Ask SubmitFault → Client → Type 0
SubmitsAlike request old result new = (caller : Caller) → IsCoreOf old caller → (after : Caller) × IsCoreOf new after × SubmitIs request caller result after

-- each caller with core `old` may take in and send these letters and become one with core `new`
abbrev pub Simulates : Client → Option Letter → Client → Option Letter → Type 0
Simulates old taken new sent =
    (caller : Caller) → IsCoreOf old caller → (after : Caller) × IsCoreOf new after × CallerStep caller taken after sent

-- the caller after it took the reply to this request, if there is one
abbrev pub caller_after_taking : Told → Option Request → Caller → Caller
caller_after_taking told None caller = caller
caller_after_taking told (Some request) caller = with_reply told request caller

-- the caller after it heard a reply: it takes the first reply to each pending request of its own
abbrev pub caller_after_hearing : Told → Caller → Caller
caller_after_hearing told caller = caller_after_taking told (fresh_for told caller) caller

-- what a caller that records its replies answers
abbrev pub heard_of : TakeOutcome → Result Heard TakeFault
heard_of (Fresh reply) = Ok heard.Fresh
heard_of Known = Ok heard.Known
heard_of Foreign = Err refused.Foreign

-- each caller with core `old` takes the reply alike, and then has core `new`
abbrev pub TakesAlike : Told → Client → TakeOutcome → Client → Type 0
TakesAlike told old outcome new = (caller : Caller) → IsCoreOf old caller → IsCoreOf new (caller_after_hearing told caller) × TakeIs told caller (heard_of outcome) (caller_after_hearing told caller)

-- the reply that is handed out is the one that came
abbrev pub HandsOut : Told → TakeOutcome → Type 0
HandsOut told (Fresh reply) = reply ≡ told.reply
HandsOut told Known = Unit {0}
HandsOut told Foreign = Unit {0}
