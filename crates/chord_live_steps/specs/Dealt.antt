-- What a node does with a message, and what it sends.
use Rattle.std.specs.Prelude.{◌≡◌, ℕ, Bool, Option, None, Some, Result, Ok, Err}
use Rattle.std.specs.declared.alloc.AllocError.{AllocError}
use Rattle.chord_handover.specs.Handover.{Part, ticket_of_part}
use Rattle.chord_map.specs.declared.done.Done.{Done}
use Rattle.chord_live_steps.specs.declared.target.Target.{Target}
use Rattle.chord_live_steps.specs.declared.target.Target.TheVariants.{Node as ToNode, Caller as ToCaller}
use Rattle.chord_node.specs.Asked.{AskIs, ask_done}
use Rattle.chord_model.specs.Node.{Node, NodeStep}
use Rattle.chord_node.specs.Received.{PartIs, GotIs, BackIs}
use Rattle.chord_node.specs.declared.asks.answered.Answered.{Answered}
use Rattle.chord_node.specs.declared.asks.answered.Answered.TheVariants as answered
use Rattle.chord_node.specs.declared.handovers.part_answer.PartAnswer.{PartAnswer}
use Rattle.chord_node.specs.declared.handovers.part_answer.PartAnswer.TheVariants as given
use Rattle.chord_node.specs.declared.handovers.part_answer.Back.{Back}
use Rattle.chord_model.specs.declared.message.Message.{Message}
use Rattle.chord_model.specs.declared.message.Message.TheVariants.{Ask as AskMessage, Told as ToldMessage, Full as FullMessage, Part as PartMessage, Got as GotMessage, Declined as DeclinedMessage}

-- the message is for the node of this number: any call, a part given to it, or the answer to a part
-- that it gave
abbrev pub IsFor : Message → ℕ → Type 0
IsFor (AskMessage ask) number = Unit {0}
IsFor (PartMessage part) number = part.to ≡ number
IsFor (GotMessage ticket) number = ticket.from ≡ number
IsFor (DeclinedMessage ticket) number = ticket.from ≡ number
IsFor message number = ⊥

-- what the answer to a call of this caller and number sends, and to whom
abbrev pub answer_to : ℕ → ℕ → Answered → Option (Target × Message)
answer_to caller number (answered.Told told) = Some (ToCaller caller, ToldMessage told)
answer_to caller number (answered.Forward to passed) = Some (ToNode to, AskMessage passed)
answer_to caller number answered.Full = Some (ToCaller caller, FullMessage caller number)
answer_to caller number answered.Dropped = None

-- what the answer to a part of a handover sends to its sender
abbrev pub confirmation_of : Part → PartAnswer → Option (Target × Message)
confirmation_of part given.Got = Some (ToNode part.from, GotMessage (ticket_of_part part))
confirmation_of part given.Declined = Some (ToNode part.from, DeclinedMessage (ticket_of_part part))
confirmation_of part answer = None

-- how a node deals with a message: the node's call for it, what is sent, and the node afterwards
abbrev pub DealIs : Message → Node → Result (Option (Target × Message)) AllocError → Node → Type 0
DealIs (AskMessage ask) old (Ok sent) new = (answer : Answered) × AskIs ask old (Ok answer) new × (sent ≡ answer_to ask.caller ask.number answer)
DealIs (AskMessage ask) old (Err fault) new = AskIs ask old (Err fault) new
DealIs (PartMessage part) old (Ok sent) new = (answer : PartAnswer) × PartIs part old (Ok answer) new × (sent ≡ confirmation_of part answer)
DealIs (PartMessage part) old (Err fault) new = PartIs part old (Err fault) new
DealIs (GotMessage ticket) old (Ok sent) new = (found : Bool) × GotIs ticket old found new × (sent ≡ None)
DealIs (GotMessage ticket) old (Err fault) new = ⊥
DealIs (DeclinedMessage ticket) old (Ok sent) new = (answer : Back) × BackIs ticket old (Ok answer) new × (sent ≡ None)
DealIs (DeclinedMessage ticket) old (Err fault) new = BackIs ticket old (Err fault) new
DealIs message old result new = ⊥

-- the message without its target
abbrev pub message_in : Option (Target × Message) → Option Message
message_in None = None
message_in (Some sent) = Some sent.1

-- dealing with a message is one step of the node, unless it was out of memory
abbrev pub DealSteps : Message → Node → Result (Option (Target × Message)) AllocError → Node → Type 0
DealSteps message old (Ok sent) new = (done : Option Done) × NodeStep old (Some message) new (message_in sent) done
DealSteps message old (Err fault) new = Unit {0}

-- the call that a node executes for a message, if any
abbrev pub executed_for : Message → Node → Option Done
executed_for (AskMessage ask) old = ask_done ask old
executed_for message old = None
