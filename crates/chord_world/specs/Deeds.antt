-- What a node does: what it answers, and the world afterwards.
use Rattle.std.specs.Prelude.{◌≡◌, ◌⊎◌, ℕ, Bool, false, Option, None, Some, Result, Ok, Err, List, length, slice_get, slice_set}
use Rattle.chord_map.specs.declared.done.Done.{Done}
use Rattle.chord_caller.specs.declared.ask.Ask.{Ask}
use Rattle.chord_node.specs.declared.asks.answered.Answered.{Answered}
use Rattle.chord_node.specs.Asked.{AskIs, ask_done, sent_by}
use Rattle.chord_world.specs.declared.sent.Sent.{Sent}
use Rattle.chord_handover.specs.declared.ticket.Ticket.{Ticket}
use Rattle.chord_handover.specs.Handover.{Part}
use Rattle.chord_model.specs.declared.message.Message.{Message}
use Rattle.chord_model.specs.declared.message.Message.TheVariants.{Ask as AskMessage, Part as PartMessage, Got as GotMessage, Declined as DeclinedMessage}
use Rattle.chord_node.specs.declared.handovers.part_answer.PartAnswer.{PartAnswer}
use Rattle.chord_node.specs.declared.handovers.part_answer.PartAnswer.TheVariants as given
use Rattle.chord_node.specs.declared.handovers.part_answer.Back.{Back}
use Rattle.chord_node.specs.declared.handovers.part_answer.Back.TheVariants as back
use Rattle.chord_node.specs.Received.{PartIs, GotIs, BackIs, sent_for}
use Rattle.chord_node.specs.Moves.{CutAtIs, MergeIs, LeaveIs, RetireIs, GiveIs}
use Rattle.chord_model.specs.Node.{Node, NodeStep}
use Rattle.chord_model.specs.World.{node_at, put_node, with_one}
use Rattle.chord_world.specs.declared.deed.NodeDeed.{NodeDeed}
use Rattle.chord_world.specs.declared.deed.NodeDeed.TheVariants as deed
use Rattle.chord_world.specs.declared.outcome.Outcome.{Outcome}
use Rattle.chord_world.specs.declared.outcome.Outcome.TheVariants as did
use Rattle.chord_world.specs.declared.refusal.Refusal.{Refusal}
use Rattle.chord_world.specs.declared.refusal.Refusal.TheVariants as refused
use Rattle.chord_world.specs.declared.refusal.StepFault.TheVariants as step_fault
use Rattle.chord_world.specs.Refusals.{DoneOrRefused}
use Rattle.chord_world.specs.State.{WorldState, messages_of, targets_of, is_crashed}
use Rattle.chord_world.specs.Linking.{IsFinger, with_finger_at}
use Rattle.chord_world.specs.Taking.{no_target, outcome_of, target_of, outcome_of_given, outcome_of_freed, outcome_of_back}
use Rattle.chord_world.specs.Handing.{Call, Resends, IsMissing, HasNode, CanAct, CannotAct, IsNeeded, NeededIs, refusal_of_cut, refusal_of_merge, refusal_of_leave, refusal_of_retire, refusal_of_give, refusal_of_resend}

-- ---- the node

-- the message that a deed sends, the node that it is for if it is an Ask, and the executed call
pub record Effect : Type 0 where
  pub message : Option Message
  pub target : Option (Option ℕ)
  pub done : Option Done

-- this message, which is no Ask, is sent, or none
abbrev pub says : Option Message → Effect
says message = record { message = message; target = no_target message; done = None }

-- the node did this, and sends nothing
pub record Changes {E : Type 0} (Is : Call (Result (Unit {0}) E)) (node : Node)
    (outcome : Outcome) (after : Node) (effect : Effect) : Type 0 where
  pub is : Is node (Ok tt) after
  pub told : outcome ≡ did.Done
  pub quiet : effect ≡ says None

-- the node did this, and sends a part behind these messages
pub record SendsPart {E : Type 0} (Is : Call (Result Part E)) (node : Node) (sent : List Message)
    (outcome : Outcome) (after : Node) (effect : Effect) : Type 0 where
  pub part : Part
  pub is : Is node (Ok part) after
  pub told : outcome ≡ did.Message (length sent)
  pub sends : effect ≡ says (Some (PartMessage part))

-- the node took in the part that was sent under this number, and sends its answer
pub record TakesPart (number : ℕ) (node : Node) (sent : List Message) (outcome : Outcome)
    (after : Node) (effect : Effect) : Type 0 where
  pub part : Part
  pub given : PartAnswer
  pub came : slice_get sent number ≡ Some (PartMessage part)
  pub is : PartIs part node (Ok given) after
  pub told : outcome_of_given given (length sent) ≡ Some outcome
  pub sends : effect ≡ says (sent_for part given)

-- the node answered the call that was sent under this number
pub record AnswersCall (number : ℕ) (node : Node) (sent : List Message) (outcome : Outcome)
    (after : Node) (effect : Effect) : Type 0 where
  pub ask : Ask
  pub answered : Answered
  pub came : slice_get sent number ≡ Some (AskMessage ask)
  pub is : AskIs ask node (Ok answered) after
  pub told : outcome ≡ outcome_of answered (length sent)
  pub effect_is : effect
      ≡ record { message = sent_by ask answered; target = target_of answered; done = ask_done ask node }

-- the node took in this Got
pub record FreesItem (got : Ticket) (node : Node) (outcome : Outcome) (after : Node)
    (effect : Effect) : Type 0 where
  pub found : Bool
  pub is : GotIs got node found after
  pub told : outcome ≡ outcome_of_freed found
  pub quiet : effect ≡ says None

-- the node took in this Declined
pub record HearsBack (declined : Ticket) (node : Node) (outcome : Outcome) (after : Node)
    (effect : Effect) : Type 0 where
  pub back : Back
  pub is : BackIs declined node (Ok back) after
  pub told : outcome_of_back back ≡ Some outcome
  pub quiet : effect ≡ says None

-- the node refused this, and is unchanged
pub record RefusedBy {A E : Type 0} (Is : Call (Result A E)) (refusal_of : E → Refusal)
    (node : Node) (refusal : Refusal) : Type 0 where
  pub fault : E
  pub is : Is node (Err fault) node
  pub told : refusal ≡ refusal_of fault

-- what the node did, after these messages were sent; the node afterwards and its effect
abbrev pub NodeDoes : NodeDeed → Node → List Message → Outcome → Node → Effect → Type 0
NodeDoes (deed.Cut place at) node sent outcome after effect =
    Changes (CutAtIs place at) node outcome after effect
NodeDoes (deed.Merge place behind) node sent outcome after effect =
    Changes (MergeIs place behind) node outcome after effect
NodeDoes deed.Leave node sent outcome after effect = Changes LeaveIs node outcome after effect
NodeDoes deed.Retire node sent outcome after effect = Changes RetireIs node outcome after effect
NodeDoes (deed.Give place to) node sent outcome after effect =
    SendsPart (GiveIs place to) node sent outcome after effect
NodeDoes (deed.SendPart to number part) node sent outcome after effect =
    SendsPart (Resends to number part) node sent outcome after effect
NodeDoes (deed.TakePart number) node sent outcome after effect =
    TakesPart number node sent outcome after effect
NodeDoes (deed.TakeGot got) node sent outcome after effect =
    FreesItem got node outcome after effect
NodeDoes (deed.TakeBack declined) node sent outcome after effect =
    HearsBack declined node outcome after effect
NodeDoes (deed.SetFinger finger peer) node sent outcome after effect =
    (outcome ≡ did.Done) × (after ≡ with_finger_at finger peer node) × (effect ≡ says None)
NodeDoes (deed.Answer number) node sent outcome after effect =
    AnswersCall number node sent outcome after effect

-- why the node refuses
abbrev pub NodeRefuses : NodeDeed → Node → Refusal → Type 0
NodeRefuses (deed.Cut place at) node refusal =
    RefusedBy (CutAtIs place at) refusal_of_cut node refusal
NodeRefuses (deed.Merge place behind) node refusal =
    RefusedBy (MergeIs place behind) refusal_of_merge node refusal
NodeRefuses deed.Leave node refusal = RefusedBy LeaveIs refusal_of_leave node refusal
NodeRefuses deed.Retire node refusal = RefusedBy RetireIs refusal_of_retire node refusal
NodeRefuses (deed.Give place to) node refusal =
    RefusedBy (GiveIs place to) refusal_of_give node refusal
NodeRefuses (deed.SendPart to number part) node refusal =
    RefusedBy (Resends to number part) refusal_of_resend node refusal
NodeRefuses (deed.TakePart number) node refusal = refusal ≡ refused.Memory
NodeRefuses (deed.TakeGot got) node refusal = ⊥
NodeRefuses (deed.TakeBack declined) node refusal =
    RefusedBy (BackIs declined) (λ fault. refused.Memory) node refusal
NodeRefuses (deed.SetFinger finger peer) node refusal = ⊥
NodeRefuses (deed.Answer number) node refusal = refusal ≡ refused.Memory

-- ---- the world

-- the world after a node changed with this effect
abbrev pub with_effect : Node → Effect → WorldState → WorldState
with_effect after effect old =
    record old {
      world = record old.world {
        nodes = put_node after old.world.nodes;
        sent = with_one old.world.sent effect.message;
        history = with_one old.world.history effect.done;
      };
      targets = with_one old.targets effect.target;
    }

-- the node of this number did it
pub record DoesDeed (deed : NodeDeed) (number : ℕ) (old : WorldState) (outcome : Outcome)
    (new : WorldState) : Type 0 where
  pub node : Node
  pub after : Node
  pub effect : Effect
  pub here : node_at number old.world.nodes ≡ Some node
  pub running : is_crashed number old ≡ false
  pub does : NodeDoes deed node old.world.sent outcome after effect
  pub new_is : new ≡ with_effect after effect old

-- the node of this number refused it
pub record RefusesIt (deed : NodeDeed) (number : ℕ) (old : WorldState)
    (refusal : Refusal) : Type 0 where
  pub node : Node
  pub here : node_at number old.world.nodes ≡ Some node
  pub running : is_crashed number old ≡ false
  pub refuses : NodeRefuses deed node refusal

abbrev pub RefusesDeed : NodeDeed → ℕ → WorldState → Refusal → Type 0
RefusesDeed deed number old refusal =
    CannotAct number old refusal ⊎ RefusesIt deed number old refusal

abbrev pub DeedIs : NodeDeed → ℕ → WorldState → Result Outcome Refusal → WorldState → Type 0
DeedIs deed number = DoneOrRefused (DoesDeed deed number) (RefusesDeed deed number)

-- ---- deeds that ask for more of the world

-- a node is given a segment, so it exists
abbrev pub DoesGive : ℕ → ℕ → ℕ → WorldState → Outcome → WorldState → Type 0
DoesGive number place to old outcome new =
    HasNode to old × DoesDeed (deed.Give place to) number old outcome new

abbrev pub RefusesGive : ℕ → ℕ → ℕ → WorldState → Refusal → Type 0
RefusesGive number place to old refusal =
    IsMissing to old refusal ⊎ (HasNode to old
    × RefusesDeed (deed.Give place to) number old refusal)

abbrev pub GiveStepIs : ℕ → ℕ → ℕ → WorldState → Result Outcome Refusal → WorldState → Type 0
GiveStepIs number place to = DoneOrRefused (DoesGive number place to) (RefusesGive number place to)

-- a part is sent to a node, or there is no such part, since there is no such node
abbrev pub DoesSendPart : ℕ → ℕ → ℕ → ℕ → WorldState → Outcome → WorldState → Type 0
DoesSendPart number to item part old outcome new =
    HasNode to old × DoesDeed (deed.SendPart to item part) number old outcome new

abbrev pub RefusesSendPart : ℕ → ℕ → ℕ → ℕ → WorldState → Refusal → Type 0
RefusesSendPart number to item part old refusal =
    (CannotAct number old refusal
    ⊎ (CanAct number old × (node_at to old.world.nodes ≡ None)
    × (refusal ≡ refused.Step step_fault.NoPart)))
    ⊎ (HasNode to old × RefusesDeed (deed.SendPart to item part) number old refusal)

abbrev pub SendPartIs : ℕ → ℕ → ℕ → ℕ → WorldState → Result Outcome Refusal → WorldState → Type 0
SendPartIs number to item part =
    DoneOrRefused (DoesSendPart number to item part) (RefusesSendPart number to item part)

-- the ring does not need the node
abbrev pub DoesRetire : ℕ → WorldState → Outcome → WorldState → Type 0
DoesRetire number old outcome new =
    NeededIs number old false × DoesDeed deed.Retire number old outcome new

abbrev pub RefusesRetire : ℕ → WorldState → Refusal → Type 0
RefusesRetire number old refusal =
    (IsMissing number old refusal
    ⊎ (HasNode number old × IsNeeded number old × (refusal ≡ refused.Unsafe)))
    ⊎ (NeededIs number old false × RefusesDeed deed.Retire number old refusal)

abbrev pub RetireStepIs : ℕ → WorldState → Result Outcome Refusal → WorldState → Type 0
RetireStepIs number = DoneOrRefused (DoesRetire number) (RefusesRetire number)

-- the finger of the node is set to the node `to`
pub record DoesFinger (number finger to : ℕ) (old : WorldState) (outcome : Outcome)
    (new : WorldState) : Type 0 where
  pub peer : Node
  pub there : node_at to old.world.nodes ≡ Some peer
  pub is_finger : IsFinger finger
  pub does : DoesDeed (deed.SetFinger finger peer.links.me) number old outcome new

abbrev pub RefusesFinger : ℕ → ℕ → ℕ → WorldState → Refusal → Type 0
RefusesFinger number finger to old refusal =
    IsMissing to old refusal
    ⊎ (HasNode to old × (CannotAct number old refusal
    ⊎ (CanAct number old × (¬ IsFinger finger) × (refusal ≡ refused.Step step_fault.BadFinger))))

abbrev pub FingerIs : ℕ → ℕ → ℕ → WorldState → Result Outcome Refusal → WorldState → Type 0
FingerIs number finger to =
    DoneOrRefused (DoesFinger number finger to) (RefusesFinger number finger to)

-- ---- how it happens

-- what the deed asks of the world
abbrev pub Fits : NodeDeed → ℕ → WorldState → Type 0
Fits (deed.Cut place at) number state = Unit {0}
Fits (deed.Merge place behind) number state = Unit {0}
Fits deed.Leave number state = Unit {0}
Fits deed.Retire number state = NeededIs number state false
Fits (deed.Give place to) number state = HasNode to state
Fits (deed.SendPart to item part) number state = HasNode to state
Fits (deed.TakePart message) number state =
    (part : Part) × (slice_get state.world.sent message ≡ Some (PartMessage part))
    × (part.to ≡ number)
Fits (deed.TakeGot got) number state =
    (got.from ≡ number) × ((message : ℕ)
    × (slice_get state.world.sent message ≡ Some (GotMessage got)))
Fits (deed.TakeBack declined) number state =
    (declined.from ≡ number) × ((message : ℕ)
    × (slice_get state.world.sent message ≡ Some (DeclinedMessage declined)))
Fits (deed.SetFinger finger peer) number state = IsFinger finger
Fits (deed.Answer message) number state =
    (ask : Ask) × (slice_get state.world.sent message ≡ Some (AskMessage ask))

-- the part that was sent under this number is for the node, and no Clash
pub record IsPartFor (number : ℕ) (node : Node) (sent : List Message) : Type 0 where
  pub part : Part
  pub came : slice_get sent number ≡ Some (PartMessage part)
  pub to : part.to ≡ node.number
  pub fits : (after : Node) → ¬ PartIs part node (Ok given.Clash) after

-- what the deed asks of the node
abbrev pub NodeFits : NodeDeed → Node → List Message → Type 0
NodeFits (deed.TakePart number) node sent = IsPartFor number node sent
NodeFits (deed.TakeGot got) node sent = got.from ≡ node.number
NodeFits (deed.TakeBack declined) node sent =
    (declined.from ≡ node.number) × ((after : Node) → ¬ BackIs declined node (Ok back.Clash) after)
NodeFits (deed.SetFinger finger peer) node sent = IsFinger finger
NodeFits (deed.Answer number) node sent =
    (ask : Ask) × (slice_get sent number ≡ Some (AskMessage ask))
NodeFits deed node sent = Unit {0}

-- the message that the node takes in
abbrev pub taken_by : NodeDeed → List Message → Option Message
taken_by (deed.TakePart number) sent = slice_get sent number
taken_by (deed.TakeGot got) sent = Some (GotMessage got)
taken_by (deed.TakeBack declined) sent = Some (DeclinedMessage declined)
taken_by (deed.Answer number) sent = slice_get sent number
taken_by deed sent = None

-- the messages sent, their targets, and the executed calls
pub record Log : Type 0 where
  pub sent : List Message
  pub targets : List (Option ℕ)
  pub history : List Done

abbrev pub log_of : List Sent → List Done → Log
log_of sent history =
    record { sent = messages_of sent; targets = targets_of sent; history = history }

abbrev pub log_in : WorldState → Log
log_in state =
    record { sent = state.world.sent; targets = state.targets; history = state.world.history }

-- the log with this effect
abbrev pub log_with : Effect → Log → Log
log_with effect log = record {
  sent = with_one log.sent effect.message;
  targets = with_one log.targets effect.target;
  history = with_one log.history effect.done;
}

-- the node did it; the log before and after
pub record DidBy (deed : NodeDeed) (node : Node) (log : Log) (outcome : Outcome) (after : Node)
    (log' : Log) : Type 0 where
  pub effect : Effect
  pub does : NodeDoes deed node log.sent outcome after effect
  pub steps : NodeStep node (taken_by deed log.sent) after effect.message effect.done
  pub log_is : log' ≡ log_with effect log

-- it did, or refused and nothing changed
abbrev pub DoesIt : NodeDeed → Node → Log → Result Outcome Refusal → Node → Log → Type 0
DoesIt deed node log (Ok outcome) after log' = DidBy deed node log outcome after log'
DoesIt deed node log (Err refusal) after log' =
    NodeRefuses deed node refusal × (after ≡ node) × (log' ≡ log)

-- the node at this index did it or refused
pub record DoesItAt (deed : NodeDeed) (place : ℕ) (nodes : List Node) (log : Log)
    (result : Result Outcome Refusal) (nodes' : List Node) (log' : Log) : Type 0 where
  pub node : Node
  pub after : Node
  pub here : slice_get nodes place ≡ Some node
  pub is : DoesIt deed node log result after log'
  pub new_is : nodes' ≡ slice_set nodes place after
