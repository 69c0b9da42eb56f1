-- What a client stores of each submitted request: the request while it waits, then that it is over.
use Rattle.std.specs.Prelude.{◌≡◌, ℕ, zero, suc, Bool, true, false, Option, None, Some, List, ◌++◌, replicate, slice_get}
use Rattle.chord_map.specs.declared.request.Request.{Request}
use Rattle.chord_caller.specs.declared.request_state.RequestState.{RequestState}
use Rattle.chord_caller.specs.declared.request_state.RequestState.TheVariants.{Waiting, Over}

-- the slots of all numbers from 1 on: those up to the floor are over, the others are stored
abbrev pub all_states : ℕ → List RequestState → List RequestState
all_states floor states = replicate floor Over ++ states

-- the slot of a number
abbrev pub state_of : ℕ → List RequestState → ℕ → Option RequestState
state_of floor states zero = None
state_of floor states (suc place) = slice_get (all_states floor states) place

-- the request of a slot that waits
abbrev pub request_waiting_in : Option RequestState → Option Request
request_waiting_in None = None
request_waiting_in (Some (Waiting request)) = Some request
request_waiting_in (Some Over) = None

-- whether the slot is over: its reply was taken, or it was given up
abbrev pub is_over : Option RequestState → Bool
is_over None = false
is_over (Some (Waiting request)) = false
is_over (Some Over) = true

-- the floor rose over slots that are over; the first slot left is not over
pub record IsRaised (floor : ℕ) (states : List RequestState) (floor' : ℕ) (states' : List RequestState) : Type 0 where
  pub same : all_states floor' states' ≡ all_states floor states
  pub next : is_over (slice_get states' 0) ≡ false
