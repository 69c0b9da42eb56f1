-- A World of the program as a world of the definitions, and what holds of it.
use Rattle.std.specs.Prelude.{◌≡◌, ◌≢◌, ℕ, Bool, true, false, ◌+◌, ◌<◌, ◌≤◌, ◌⊎◌, Option, None, Some, List, [], ◌∷◌, ◌++◌, map, length, slice_get, slice_index_or}
use Rattle.chord_ring.specs.Ring.{KeepsPrincipals}
use Rattle.chord_ring.specs.Sound.{IsSound}
use Rattle.chord_ring.specs.Steps.{Ring}
use Rattle.chord_caller.specs.Caller.{Caller}
use Rattle.chord_model.specs.declared.phase.Phase.TheVariants.{Leaving}
use Rattle.chord_model.specs.declared.message.Message.{Message}
use Rattle.chord_model.specs.declared.message.Message.TheVariants.{Ask as AskMessage, Told as ToldMessage, Full as FullMessage, Part as PartMessage, Got as GotMessage, Declined as DeclinedMessage, Note as NoteMessage}
use Rattle.chord_model.specs.Node.{Node}
use Rattle.chord_model.specs.World.{World, Reached, empty_world, caller_at, put_caller}
use Rattle.chord_world.specs.declared.sent.Sent.{Sent}
use Rattle.chord_world.specs.declared.fate.Fate.{Fate}
use Rattle.chord_world.specs.declared.fate.Fate.TheVariants as fate
use Rattle.chord_world.specs.Members.{is_gone, is_out, is_dead, ring_with}

-- the messages sent
abbrev pub messages_of : List Sent → List Message
messages_of sent = map (λ (one : Sent). one.message) sent

-- for each message sent, the node that it goes to, if it is an Ask
abbrev pub targets_of : List Sent → List (Option ℕ)
targets_of sent = map (λ (one : Sent). one.to) sent

-- the world of the definitions; for each message sent, the node that it goes to, if it is an Ask;
-- for each node, whether it crashed and was rescued; and how many successors a node may list
pub record WorldState : Type 0 where
  pub world : World
  pub targets : List (Option ℕ)
  pub fates : List Fate
  pub r : ℕ

-- the ring formed by the world's nodes
abbrev pub ring_of : WorldState → Ring
ring_of state = ring_with state.world.nodes state.fates

-- a world in which nothing has happened
abbrev pub new_world : ℕ → WorldState
new_world r = record { world = empty_world; targets = []; fates = []; r = r }

-- the elements' numbers are start, start + 1, and so on
abbrev pub NumberedFrom : {A : Type 0} → (A → ℕ) → ℕ → List A → Type 0
NumberedFrom number_of start [] = Unit {0}
NumberedFrom number_of start (x ∷ xs) = (number_of x ≡ start) × NumberedFrom number_of (start + 1) xs

abbrev pub NodesFrom : ℕ → List Node → Type 0
NodesFrom start nodes = NumberedFrom (λ (n : Node). n.number) start nodes

abbrev pub CallersFrom : ℕ → List Caller → Type 0
CallersFrom start callers = NumberedFrom (λ (c : Caller). c.number) start callers

-- the message is of one of the first `callers` callers, or of a handover between two of the first
-- `nodes` nodes
abbrev pub IsKnown : ℕ → ℕ → Message → Type 0
IsKnown nodes callers (AskMessage ask) = ask.caller < callers
IsKnown nodes callers (ToldMessage told) = told.caller < callers
IsKnown nodes callers (FullMessage caller number) = caller < callers
IsKnown nodes callers (PartMessage part) = (part.from < nodes) × (part.to < nodes)
IsKnown nodes callers (GotMessage ticket) = (ticket.from < nodes) × (ticket.to < nodes)
IsKnown nodes callers (DeclinedMessage ticket) = (ticket.from < nodes) × (ticket.to < nodes)
IsKnown nodes callers (NoteMessage note) = note.caller < callers

-- each of the messages is known
abbrev pub AreKnown : ℕ → ℕ → List Message → Type 0
AreKnown nodes callers [] = Unit {0}
AreKnown nodes callers (message ∷ rest) = IsKnown nodes callers message × AreKnown nodes callers rest

-- an Ask has a node that it goes to; any other message has none
abbrev pub IsAimed : Message → Option ℕ → Type 0
IsAimed (AskMessage ask) None = ⊥
IsAimed (AskMessage ask) (Some to) = Unit {0}
IsAimed message None = Unit {0}
IsAimed message (Some to) = ⊥

-- each of the messages has its target
abbrev pub AreAimed : List Message → List (Option ℕ) → Type 0
AreAimed [] [] = Unit {0}
AreAimed (message ∷ rest) (to ∷ targets) = IsAimed message to × AreAimed rest targets
AreAimed messages targets = ⊥

-- the fate of the node of this number
abbrev pub fate_of : ℕ → WorldState → Fate
fate_of number state = slice_index_or state.fates number fate.Well

-- whether the node of this number crashed and was not rescued
abbrev pub is_crashed : ℕ → WorldState → Bool
is_crashed number state = is_out (fate_of number state)

-- a node that crashed is not gone
abbrev pub CrashedAreThere : WorldState → Type 0
CrashedAreThere state = (number : ℕ) (node : Node) → is_crashed number state ≡ true → slice_get state.world.nodes number ≡ Some node → is_gone node.phase ≡ false

-- The world is reachable; its nodes and callers have the numbers 0, 1, ..; each Ask has its node;
-- each message is of its callers or between its nodes; none that crashed is gone; and its nodes form
-- a sound ring
pub record IsWorld (state : WorldState) : Type 0 where
  pub reached : ∥ Reached state.world ∥₁
  pub nodes : NodesFrom 0 state.world.nodes
  pub callers : CallersFrom 0 state.world.callers
  pub targets : AreAimed state.world.sent state.targets
  pub calls : AreKnown (length state.world.nodes) (length state.world.callers) state.world.sent
  pub fates : length state.fates ≡ length state.world.nodes
  pub crashed : CrashedAreThere state
  pub ring : state.world.nodes ≢ [] → IsSound (ring_of state)
  pub low : 2 ≤ state.r
  pub high : state.r ≤ 16

-- the caller and the node exist
abbrev pub IsThere : ℕ → ℕ → WorldState → Caller → Type 0
IsThere caller via state core = (via < length state.world.nodes) × (caller_at caller state.world.callers ≡ Some core)

-- the world after a caller changed
abbrev pub with_heard : Caller → WorldState → WorldState
with_heard after old = record old { world = record old.world { callers = put_caller after old.world.callers } }

-- the world after this message was sent, to this node if it is an Ask
abbrev pub with_sent : Message → Option ℕ → WorldState → WorldState
with_sent message to old =
    record old { world = record old.world { sent = old.world.sent ++ message ∷ [] }; targets = old.targets ++ to ∷ [] }

-- the node with all that it has, leaving
abbrev pub leaving : Node → Node
leaving node = record node { phase = Leaving }

-- the node of this number, which crashed, was rescued: it is leaving with all that it has
pub record IsRescued (number : ℕ) (old new : WorldState) : Type 0 where
  pub node : Node
  pub here : slice_get old.world.nodes number ≡ Some node
  pub there : slice_get new.world.nodes number ≡ Some (leaving node)
  pub rescued : fate_of number new ≡ fate.Rescued

-- a principal that is still a member is still a principal; a node that is dead for the ring stays
-- so; a node that crashed stays the same, or is rescued
pub record KeepsRing (old new : WorldState) : Type 0 where
  pub principals : KeepsPrincipals (ring_of old).members (ring_of new).members
  pub dead : (number : ℕ) → is_dead (fate_of number old) ≡ true → is_dead (fate_of number new) ≡ true
  pub crashed : (number : ℕ) → is_crashed number old ≡ true
      → ((is_crashed number new ≡ true) × (slice_get new.world.nodes number ≡ slice_get old.world.nodes number)) ⊎ IsRescued number old new
