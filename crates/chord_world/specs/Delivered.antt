-- What a World answers to the delivery of a message.
use Rattle.std.specs.Prelude.{◌≡◌, ◌≢◌, ℕ, true, ◌≤◌, None, Some, Result, Ok, [], length, slice_get}
use Rattle.chord_caller.specs.declared.ask.Ask.{Ask}
use Rattle.chord_caller.specs.declared.told.Told.{Told}
use Rattle.chord_caller.specs.declared.heard.Heard.{Heard}
use Rattle.chord_caller.specs.declared.heard.Heard.TheVariants.{Fresh as FreshReply, Known as KnownReply}
use Rattle.chord_caller.specs.Caller.{Note, Caller}
use Rattle.chord_caller.specs.Answers.{TakeIs}
use Rattle.chord_model.specs.declared.message.Message.TheVariants.{Ask as AskMessage, Told as ToldMessage, Full as FullMessage, Part as PartMessage, Got as GotMessage, Declined as DeclinedMessage, Note as NoteMessage}
use Rattle.chord_handover.specs.declared.ticket.Ticket.{Ticket}
use Rattle.chord_handover.specs.Handover.{Part}
use Rattle.chord_world.specs.declared.deed.NodeDeed.TheVariants as deed
use Rattle.chord_world.specs.Deeds.{DoesDeed, RefusesIt}
use Rattle.chord_model.specs.Node.{Node}
use Rattle.chord_model.specs.World.{node_at, caller_at}
use Rattle.chord_world.specs.declared.outcome.Outcome.{Outcome}
use Rattle.chord_world.specs.declared.outcome.Outcome.TheVariants as did
use Rattle.chord_world.specs.declared.refusal.Refusal.{Refusal}
use Rattle.chord_world.specs.declared.refusal.Refusal.TheVariants as refused
use Rattle.chord_world.specs.declared.refusal.StepFault.TheVariants as step_fault
use Rattle.chord_world.specs.Refusals.{DoneOrRefused}
use Rattle.chord_world.specs.State.{WorldState, with_heard, is_crashed}

-- the outcome of hearing a reply
abbrev pub outcome_heard : Heard → ℕ → Outcome
outcome_heard FreshReply caller = did.Fresh caller
outcome_heard KnownReply caller = did.Known

-- How the message of this number is delivered, and its outcome.
pub data Delivers (message : ℕ) (old : WorldState) : Outcome → WorldState → Type 0 where
  -- an Ask is delivered to its node
  To_node : (ask : Ask) (to : ℕ) (outcome : Outcome) (new : WorldState)
      → slice_get old.world.sent message ≡ Some (AskMessage ask) → slice_get old.targets message ≡ Some (Some to)
      → DoesDeed (deed.Answer message) to old outcome new → Delivers message old outcome new
  -- a Told is delivered to its caller
  To_caller : (told : Told) (core after : Caller) (heard : Heard) → slice_get old.world.sent message ≡ Some (ToldMessage told)
      → caller_at told.caller old.world.callers ≡ Some core → TakeIs told core (Ok heard) after
      → Delivers message old (outcome_heard heard told.caller) (with_heard after old)
  -- a Part is delivered to its receiver
  Part_to_node : (part : Part) (outcome : Outcome) (new : WorldState) → slice_get old.world.sent message ≡ Some (PartMessage part)
      → DoesDeed (deed.TakePart message) part.to old outcome new → Delivers message old outcome new
  -- a Got is delivered to the giver
  Got_to_node : (got : Ticket) (outcome : Outcome) (new : WorldState) → slice_get old.world.sent message ≡ Some (GotMessage got)
      → DoesDeed (deed.TakeGot got) got.from old outcome new → Delivers message old outcome new
  -- a Declined is delivered to the giver
  Declined_to_node : (declined : Ticket) (outcome : Outcome) (new : WorldState) → slice_get old.world.sent message ≡ Some (DeclinedMessage declined)
      → DoesDeed (deed.TakeBack declined) declined.from old outcome new → Delivers message old outcome new
  -- a Full is delivered to its caller
  Full_to_caller : (caller number : ℕ) (core : Caller) → slice_get old.world.sent message ≡ Some (FullMessage caller number)
      → caller_at caller old.world.callers ≡ Some core → Delivers message old did.HeardFull old

-- the message of this number is an Ask for a node that does not exist
pub record IsAstray (message : ℕ) (old : WorldState) : Type 0 where
  pub ask : Ask
  pub to : ℕ
  pub sent : slice_get old.world.sent message ≡ Some (AskMessage ask)
  pub target : slice_get old.targets message ≡ Some (Some to)
  pub missing : node_at to old.world.nodes ≡ None

-- the message of this number is for this node
pub data IsFor (message : ℕ) (old : WorldState) : ℕ → Type 0 where
  Ask_for : (ask : Ask) (to : ℕ) → slice_get old.world.sent message ≡ Some (AskMessage ask) → slice_get old.targets message ≡ Some (Some to) → IsFor message old to
  Part_for : (part : Part) → slice_get old.world.sent message ≡ Some (PartMessage part) → IsFor message old part.to
  Got_for : (got : Ticket) → slice_get old.world.sent message ≡ Some (GotMessage got) → IsFor message old got.from
  Declined_for : (declined : Ticket) → slice_get old.world.sent message ≡ Some (DeclinedMessage declined) → IsFor message old declined.from

-- the message of this number is for a node that has crashed
pub record IsForCrashed (message : ℕ) (old : WorldState) : Type 0 where
  pub to : ℕ
  pub node : Node
  pub is_for : IsFor message old to
  pub here : node_at to old.world.nodes ≡ Some node
  pub crashed : is_crashed to old ≡ true

-- taking in the message of this number copies something or makes something grow
pub data TakesMemory (message : ℕ) (old : WorldState) : Type 0 where
  Ask_takes : (ask : Ask) (to : ℕ) → slice_get old.world.sent message ≡ Some (AskMessage ask)
      → slice_get old.targets message ≡ Some (Some to) → RefusesIt (deed.Answer message) to old refused.Memory
      → TakesMemory message old
  Told_takes : (told : Told) → slice_get old.world.sent message ≡ Some (ToldMessage told) → TakesMemory message old
  Part_takes : (part : Part) → slice_get old.world.sent message ≡ Some (PartMessage part)
      → RefusesIt (deed.TakePart message) part.to old refused.Memory → TakesMemory message old
  Declined_takes : (declined : Ticket) → slice_get old.world.sent message ≡ Some (DeclinedMessage declined)
      → RefusesIt (deed.TakeBack declined) declined.from old refused.Memory → TakesMemory message old

-- why the message of this number is refused
abbrev pub RefusesDeliver : ℕ → WorldState → Refusal → Type 0
RefusesDeliver message old refused.NotCreated = old.world.nodes ≡ []
RefusesDeliver message old refused.NoSuchNode = IsAstray message old
RefusesDeliver message old refused.NoSuchMessage = (old.world.nodes ≢ []) × (length old.world.sent ≤ message)
RefusesDeliver message old (refused.Step step_fault.Crashed) = IsForCrashed message old
RefusesDeliver message old (refused.Step step_fault.NeedsMeet) = (note : Note) × (slice_get old.world.sent message ≡ Some (NoteMessage note))
RefusesDeliver message old refused.Memory = TakesMemory message old
RefusesDeliver message old refusal = ⊥

-- what a World answers to the delivery of this message
abbrev pub DeliverIs : ℕ → WorldState → Result Outcome Refusal → WorldState → Type 0
DeliverIs message = DoneOrRefused (Delivers message) (RefusesDeliver message)
