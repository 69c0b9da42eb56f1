-- What a World answers to a request sent again or given up, and to a note sent or met.
use Rattle.std.specs.Prelude.{◌≡◌, ◌≢◌, ℕ, ◌<◌, ◌≤◌, true, false, Option, None, Some, Result, Ok, Err, List, [], ◌∷◌, ◌++◌, length, slice_get, slice_set}
use Rattle.std.specs.declared.alloc.AllocError.{AllocError}
use Rattle.chord_caller.specs.declared.ask.Ask.{Ask}
use Rattle.chord_caller.specs.Caller.{Note, Caller, known_calls, unknown_calls, with_given_up}
use Rattle.chord_caller.specs.Answers.{is_pending, PendingIs, ResendIs}
use Rattle.chord_model.specs.declared.message.Message.{Message}
use Rattle.chord_model.specs.declared.message.Message.TheVariants.{Ask as AskMessage, Note as NoteMessage}
use Rattle.chord_model.specs.World.{caller_at}
use Rattle.chord_world.specs.declared.outcome.Outcome.{Outcome}
use Rattle.chord_world.specs.declared.outcome.Outcome.TheVariants as did
use Rattle.chord_world.specs.declared.refusal.Refusal.{Refusal}
use Rattle.chord_world.specs.declared.refusal.Refusal.TheVariants as refused
use Rattle.chord_world.specs.declared.refusal.StepFault.TheVariants as step_fault
use Rattle.chord_world.specs.Refusals.{DoneOrRefused}
use Rattle.chord_world.specs.State.{WorldState, IsThere, with_heard, with_sent}

-- the caller and the node exist, or this is the first refusal that applies
abbrev pub AreThere : ℕ → ℕ → WorldState → Result (Unit {0}) Refusal → Type 0
AreThere caller via state (Ok there) = (core : Caller) × IsThere caller via state core
AreThere caller via state (Err refused.NotCreated) = state.world.nodes ≡ []
AreThere caller via state (Err refused.NoSuchNode) = (state.world.nodes ≢ []) × (length state.world.nodes ≤ via)
AreThere caller via state (Err refused.NoSuchCaller) = (via < length state.world.nodes) × (caller_at caller state.world.callers ≡ None)
AreThere caller via state (Err refusal) = ⊥

-- the caller exists, or this is the first refusal that applies
abbrev pub CallerIs : ℕ → WorldState → Result (Unit {0}) Refusal → Type 0
CallerIs caller state (Ok there) = (state.world.nodes ≢ []) × ((core : Caller) × (caller_at caller state.world.callers ≡ Some core))
CallerIs caller state (Err refused.NotCreated) = state.world.nodes ≡ []
CallerIs caller state (Err refused.NoSuchCaller) = (state.world.nodes ≢ []) × (caller_at caller state.world.callers ≡ None)
CallerIs caller state (Err refusal) = ⊥

-- ---- a request again

-- the number to send again: the one given, else the least pending one, if any
abbrev pub WantedIs : Option ℕ → Caller → Option ℕ → Type 0
WantedIs (Some number) core wanted = wanted ≡ Some number
WantedIs None core wanted = PendingIs core wanted

-- the number to send again is not pending, or there is none
pub data IsIdle (named : Option ℕ) (core : Caller) : Type 0 where
  Not_pending : (number : ℕ) → WantedIs named core (Some number) → is_pending number core ≡ false → IsIdle named core
  None_pending : WantedIs named core None → IsIdle named core

-- the number to send again is pending
pub record IsWaiting (named : Option ℕ) (core : Caller) : Type 0 where
  pub number : ℕ
  pub wanted : WantedIs named core (Some number)
  pub pending : is_pending number core ≡ true

-- the caller sends the request of that number again
pub record AsksAgain (named : Option ℕ) (core : Caller) (ask : Ask) : Type 0 where
  pub number : ℕ
  pub wanted : WantedIs named core (Some number)
  pub resends : ResendIs number core (Ok ask)

-- why the caller does not send it again
pub data CannotAskAgain (named : Option ℕ) (core : Caller) : Refusal → Type 0 where
  Is_idle : IsIdle named core → CannotAskAgain named core (refused.Step step_fault.Idle)
  No_memory : IsWaiting named core → CannotAskAgain named core refused.Memory

abbrev pub AgainIs : Option ℕ → Caller → Result Ask Refusal → Type 0
AgainIs named core (Ok ask) = AsksAgain named core ask
AgainIs named core (Err refusal) = CannotAskAgain named core refusal

-- the request was sent again in this message
pub record SendsAgain (caller via : ℕ) (named : Option ℕ) (old : WorldState) (message : ℕ) (new : WorldState) : Type 0 where
  pub core : Caller
  pub ask : Ask
  pub there : IsThere caller via old core
  pub asks : AsksAgain named core ask
  pub numbered : message ≡ length old.world.sent
  pub new_is : new ≡ with_sent (AskMessage ask) (Some via) old

abbrev pub DoesResend : ℕ → ℕ → Option ℕ → WorldState → Outcome → WorldState → Type 0
DoesResend caller via named old (did.Message message) new = SendsAgain caller via named old message new
DoesResend caller via named old outcome new = ⊥

abbrev pub RefusesResend : ℕ → ℕ → Option ℕ → WorldState → Refusal → Type 0
RefusesResend caller via named old (refused.Step step_fault.Idle) = (core : Caller) × IsThere caller via old core × IsIdle named core
RefusesResend caller via named old refused.Memory = (core : Caller) × IsThere caller via old core × IsWaiting named core
RefusesResend caller via named old refusal = AreThere caller via old (Err refusal)

abbrev pub ResendStepIs : ℕ → ℕ → Option ℕ → WorldState → Result Outcome Refusal → WorldState → Type 0
ResendStepIs caller via named = DoneOrRefused (DoesResend caller via named) (RefusesResend caller via named)

-- ---- a request given up

-- the caller gave its pending request of this number up
pub record GivesUp (caller number : ℕ) (old new : WorldState) : Type 0 where
  pub core : Caller
  pub here : caller_at caller old.world.callers ≡ Some core
  pub pending : is_pending number core ≡ true
  pub new_is : new ≡ with_heard (with_given_up number core) old

abbrev pub DoesGiveUp : ℕ → ℕ → WorldState → Outcome → WorldState → Type 0
DoesGiveUp caller number old did.Done new = GivesUp caller number old new
DoesGiveUp caller number old outcome new = ⊥

abbrev pub RefusesGiveUp : ℕ → ℕ → WorldState → Refusal → Type 0
RefusesGiveUp caller number old (refused.Step step_fault.Idle) =
    (old.world.nodes ≢ []) × ((core : Caller) × (caller_at caller old.world.callers ≡ Some core) × (is_pending number core ≡ false))
RefusesGiveUp caller number old refusal = CallerIs caller old (Err refusal)

abbrev pub GiveUpIs : ℕ → ℕ → WorldState → Result Outcome Refusal → WorldState → Type 0
GiveUpIs caller number = DoneOrRefused (DoesGiveUp caller number) (RefusesGiveUp caller number)

-- ---- a note

-- the note of what a caller knows
abbrev pub note_of : Caller → Note
note_of core = record { caller = core.number; done = known_calls core }

-- the note was sent in this message
pub record SendsNote (caller : ℕ) (old : WorldState) (message : ℕ) (new : WorldState) : Type 0 where
  pub core : Caller
  pub here : caller_at caller old.world.callers ≡ Some core
  pub numbered : message ≡ length old.world.sent
  pub new_is : new ≡ with_sent (NoteMessage (note_of core)) None old

abbrev pub DoesShow : ℕ → WorldState → Outcome → WorldState → Type 0
DoesShow caller old (did.Message message) new = SendsNote caller old message new
DoesShow caller old outcome new = ⊥

abbrev pub RefusesShow : ℕ → WorldState → Refusal → Type 0
RefusesShow caller old refused.Memory = CallerIs caller old (Ok tt)
RefusesShow caller old refusal = CallerIs caller old (Err refusal)

abbrev pub ShowIs : ℕ → WorldState → Result Outcome Refusal → WorldState → Type 0
ShowIs caller = DoneOrRefused (DoesShow caller) (RefusesShow caller)

-- the caller after it met the note
abbrev pub with_note : Note → Caller → Caller
with_note note core = record core { told = core.told ++ unknown_calls core note.done }

-- the caller met the note of this message
pub record MeetsNote (caller message : ℕ) (old new : WorldState) : Type 0 where
  pub core : Caller
  pub note : Note
  pub here : caller_at caller old.world.callers ≡ Some core
  pub sent : slice_get old.world.sent message ≡ Some (NoteMessage note)
  pub new_is : new ≡ with_heard (with_note note core) old

-- the message of this number is no note
abbrev pub IsNoNote : ℕ → WorldState → Type 0
IsNoNote message state = (message < length state.world.sent) × ((note : Note) → slice_get state.world.sent message ≢ Some (NoteMessage note))

abbrev pub DoesMeet : ℕ → ℕ → WorldState → Outcome → WorldState → Type 0
DoesMeet caller message old did.Met new = MeetsNote caller message old new
DoesMeet caller message old outcome new = ⊥

abbrev pub RefusesMeet : ℕ → ℕ → WorldState → Refusal → Type 0
RefusesMeet caller message old refused.NoSuchMessage = CallerIs caller old (Ok tt) × (length old.world.sent ≤ message)
RefusesMeet caller message old (refused.Step step_fault.NotNote) = CallerIs caller old (Ok tt) × IsNoNote message old
RefusesMeet caller message old refused.Memory = CallerIs caller old (Ok tt) × ((note : Note) × (slice_get old.world.sent message ≡ Some (NoteMessage note)))
RefusesMeet caller message old refusal = CallerIs caller old (Err refusal)

abbrev pub MeetIs : ℕ → ℕ → WorldState → Result Outcome Refusal → WorldState → Type 0
MeetIs caller message = DoneOrRefused (DoesMeet caller message) (RefusesMeet caller message)

-- ---- how it happens

-- the caller exists and its request of this number is pending, or the step is refused so
abbrev pub MayGiveUp : ℕ → ℕ → WorldState → Result (Unit {0}) Refusal → Type 0
MayGiveUp caller number state (Ok may) = (core : Caller) × (caller_at caller state.world.callers ≡ Some core) × (is_pending number core ≡ true)
MayGiveUp caller number state (Err refusal) = RefusesGiveUp caller number state refusal

-- the request of this number of the caller at this index is pending
pub record CanGiveUp (place number : ℕ) (callers : List Caller) : Type 0 where
  pub core : Caller
  pub here : slice_get callers place ≡ Some core
  pub pending : is_pending number core ≡ true

-- the caller at this index gave its request up; the list has the caller afterwards
pub record GaveUp (place number : ℕ) (old new : List Caller) : Type 0 where
  pub can : CanGiveUp place number old
  pub new_is : new ≡ slice_set old place (with_given_up number can.core)

-- one more message was sent, or memory ran out and nothing changed
abbrev pub SentIs : Message → Option ℕ → List Message → List (Option ℕ) → Result ℕ AllocError → List Message → List (Option ℕ) → Type 0
SentIs message to sent targets (Ok number) sent' targets' = (number ≡ length sent) × (sent' ≡ sent ++ message ∷ []) × (targets' ≡ targets ++ to ∷ [])
SentIs message to sent targets (Err refused) sent' targets' = (sent' ≡ sent) × (targets' ≡ targets)

-- the caller at this index met the note; the list has the caller afterwards
pub record Met (place : ℕ) (note : Note) (old new : List Caller) : Type 0 where
  pub core : Caller
  pub here : slice_get old place ≡ Some core
  pub new_is : new ≡ slice_set old place (with_note note core)

-- it met the note, or memory ran out and nothing changed
abbrev pub MeetsAt : ℕ → Note → List Caller → Result (Unit {0}) AllocError → List Caller → Type 0
MeetsAt place note old (Ok met) new = Met place note old new
MeetsAt place note old (Err refused) new = new ≡ old
