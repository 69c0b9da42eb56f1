-- The outcomes and messages of what a node takes in.
use Rattle.std.specs.Prelude.{ℕ, Bool, true, false, Option, None, Some}
use Rattle.chord_handover.specs.declared.ticket.Ticket.{Ticket}
use Rattle.chord_node.specs.declared.asks.answered.Answered.{Answered}
use Rattle.chord_node.specs.declared.asks.answered.Answered.TheVariants as answer
use Rattle.chord_node.specs.declared.handovers.part_answer.PartAnswer.{PartAnswer}
use Rattle.chord_node.specs.declared.handovers.part_answer.PartAnswer.TheVariants as given
use Rattle.chord_node.specs.declared.handovers.part_answer.Back.{Back}
use Rattle.chord_node.specs.declared.handovers.part_answer.Back.TheVariants as back
use Rattle.chord_model.specs.declared.message.Message.{Message}
use Rattle.chord_model.specs.declared.message.Message.TheVariants.{Got as GotMessage, Declined as DeclinedMessage}
use Rattle.chord_world.specs.declared.outcome.Outcome.{Outcome}
use Rattle.chord_world.specs.declared.outcome.Outcome.TheVariants as did

-- the outcome of an answer to a part, if `count` messages were sent before; Clash has none, for it
-- never happens
abbrev pub outcome_of_given : PartAnswer → ℕ → Option Outcome
outcome_of_given given.Got count = Some (did.Got count)
outcome_of_given given.Declined count = Some (did.Declined count)
outcome_of_given given.Early count = Some did.Early
outcome_of_given given.Full count = Some did.NoRoom
outcome_of_given given.Part count = Some did.Noted
outcome_of_given given.Clash count = None

-- the message that the answer sends back to the giver
abbrev pub confirmation : Ticket → PartAnswer → Option Message
confirmation ticket given.Got = Some (GotMessage ticket)
confirmation ticket given.Declined = Some (DeclinedMessage ticket)
confirmation ticket answer = None

-- the target of a message, if there is one, that is no Ask: no node
abbrev pub no_target : Option Message → Option (Option ℕ)
no_target None = None
no_target (Some message) = Some None

-- the outcome of a Got: whether the outbox had its item
abbrev pub outcome_of_freed : Bool → Outcome
outcome_of_freed true = did.Freed
outcome_of_freed false = did.Unknown

-- the outcome of a Declined; Clash has none, for it never happens
abbrev pub outcome_of_back : Back → Option Outcome
outcome_of_back back.Held = Some did.Held
outcome_of_back back.Unknown = Some did.Unknown
outcome_of_back back.Full = Some did.NoRoom
outcome_of_back back.Clash = None

-- the outcome of an answer to a call, if `count` messages were sent before
abbrev pub outcome_of : Answered → ℕ → Outcome
outcome_of (answer.Told told) count = did.Told count
outcome_of (answer.Forward to passed) count = did.Forwarded count
outcome_of answer.Dropped count = did.Dropped
outcome_of answer.Full count = did.Full count

-- the node that the answer's message is for, if it is an Ask
abbrev pub target_of : Answered → Option (Option ℕ)
target_of (answer.Told told) = Some None
target_of (answer.Forward to passed) = Some (Some to)
target_of answer.Dropped = None
target_of answer.Full = Some None
