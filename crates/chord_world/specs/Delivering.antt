-- How a message is taken in.
use Rattle.std.specs.Prelude.{◌≡◌, ℕ, ◌<◌, false, Option, Some, None, Result, Ok, Err, List, length, slice_get}
use Rattle.std.specs.declared.alloc.AllocError.{AllocError}
use Rattle.chord_caller.specs.declared.told.Told.{Told}
use Rattle.chord_caller.specs.declared.heard.Heard.{Heard}
use Rattle.chord_caller.specs.Caller.{Caller}
use Rattle.chord_caller.specs.Answers.{IsForeign, TakeIs}
use Rattle.chord_node.specs.declared.asks.answered.Answered.{Answered}
use Rattle.chord_node.specs.declared.asks.answered.Answered.TheVariants as answer
use Rattle.chord_model.specs.declared.message.Message.{Message}
use Rattle.chord_model.specs.declared.message.Message.TheVariants.{Ask as AskMessage, Told as ToldMessage, Full as FullMessage}
use Rattle.chord_world.specs.declared.refusal.Refusal.{Refusal}
use Rattle.chord_world.specs.State.{WorldState, is_crashed}
use Rattle.chord_world.specs.Sending.{CallerDoes}
use Rattle.chord_world.specs.Delivered.{RefusesDeliver}

-- the caller at this index hears the reply
abbrev pub HearsAt : ℕ → Told → List Caller → Result Heard AllocError → List Caller → Type 0
HearsAt place told old result new = CallerDoes place (λ (heard : Heard) core after. TakeIs told core (Ok heard) after) old result new

-- the reply answers a request of the caller at this index
abbrev pub IsOwed : ℕ → Told → List Caller → Type 0
IsOwed place told callers = (core : Caller) → slice_get callers place ≡ Some core → ¬ IsForeign told core

-- the message that this answer to the caller's call of this number sends
abbrev pub message_by : ℕ → ℕ → Answered → Option Message
message_by caller number (answer.Told told) = Some (ToldMessage told)
message_by caller number (answer.Forward to passed) = Some (AskMessage passed)
message_by caller number answer.Full = Some (FullMessage caller number)
message_by caller number answer.Dropped = None

-- the call of this number is for this node, which exists and has not crashed
pub record IsReceiver (place to : ℕ) (state : WorldState) : Type 0 where
  pub target : slice_get state.targets place ≡ Some (Some to)
  pub there : to < length state.world.nodes
  pub running : is_crashed to state ≡ false

-- the call has this receiver, or is refused with this
abbrev pub ReceiverIs : ℕ → WorldState → Result ℕ Refusal → Type 0
ReceiverIs place state (Ok to) = IsReceiver place to state
ReceiverIs place state (Err refusal) = RefusesDeliver place state refusal
