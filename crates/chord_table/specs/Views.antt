-- What the seats of one table show of the world.
use Rattle.std.specs.Prelude.{◌≡◌, ◌≢◌, ℕ, ◌+◌, ◌^◌, ◌<◌, ◌≤◌, ◌⊎◌, ◌||◌, ◌==◌, Bool, true, false, Option, Some, List, [], ◌∷◌, ◌++◌, All, Contains, map, length, IsTrue}
use mathlib.Core.Option.{some}
use lib.ListN.{get_elem?}
use Rattle.atomic_table.specs.Table.{State}
pub use Rattle.atomic_table.specs.Seated.{TableId, table_id_coded}
use Rattle.chord_caller.specs.Answers.{new_caller}
use Rattle.chord_caller.specs.Caller.{Caller, CallerStep, Letter, with_request}
use Rattle.chord_ident.specs.Circle.{IsBetween}
use Rattle.chord_links.specs.NodeLinks.{NodeLinks, alone, first_entry}
use Rattle.chord_model.specs.declared.phase.Phase.TheVariants.{Gone, Leaving}
use Rattle.chord_ring.specs.declared.ring_step.RingStep.{RingStep}
use Rattle.chord_ring.specs.Ring.{links_of, is_member, IsPrincipal}
use Rattle.chord_ring.specs.Steps.{Ring, Step, with_links, joined_links}
use Rattle.chord_model.specs.declared.message.Message.{Message}
use Rattle.chord_model.specs.declared.message.Message.TheVariants.{Ask, Full}
use Rattle.chord_model.specs.Letters.{letter_sent}
use Rattle.chord_model.specs.Node.{Node, NodeStep, founder, newborn}
use Rattle.chord_model.specs.World.{World, WasSent}
use Rattle.chord_map.specs.declared.done.Done.{Done}
use Rattle.chord_table.specs.Actors.{IsThere, AreOne, Event, node_numbers, caller_numbers}
use Rattle.chord_table.specs.Later.{WasThere}
use Rattle.chord_table.specs.Scenes.{Scene, Lived, Agrees, bare, place_of, is_among}
use Rattle.chord_table.specs.Seen.{Actor, OfNode, OfCaller, Known, View, Admitted, Shown, Together, Witnessed, Sent, Standing, Spent}
pub use Rattle.chord_table.specs.Seen.{Sight}

-- which table it is, and how many of its words are for nodes and for callers
pub record Name : Type 0 where
  pub table : TableId
  pub slots : ℕ
  pub callers : ℕ

-- the name of no table
abbrev pub no_name : Name
no_name = record {
  table = record {
    words = 0;
    slots = 0;
    views_name = 0;
    atom = 0;
    block = 0;
    offset = 0;
    slot_names = [];
  };
  slots = 0;
  callers = 0;
}

-- one of these sights is of this actor
abbrev pub OneIs : List Sight → Actor → Type 0
OneIs [] actor = ⊥
OneIs (sight ∷ rest) actor = AreOne sight.actor actor ⊎ OneIs rest actor

-- no two of these sights are of one actor
abbrev pub AllDiffer : List Sight → Type 0
AllDiffer [] = Unit {0}
AllDiffer (sight ∷ rest) = (¬ OneIs rest sight.actor) × AllDiffer rest

-- the world has the actor in this very state, and these messages were sent there
abbrev pub IsSeen : World → Sight → Type 0
IsSeen world sight = IsThere world sight.actor × All (Contains world.sent) sight.messages

-- whether a node crashed is as the actor says
abbrev pub IsStanding : List ℕ → Actor → Type 0
IsStanding out (OfNode node crashed) = is_among node.number out ≡ crashed
IsStanding out (OfCaller caller) = Unit {0}

-- the same of a scene, where whether the actor crashed is as it says
abbrev pub IsSeenIn : Scene → Sight → Type 0
IsSeenIn scene sight = IsSeen scene.world sight × IsStanding scene.crashed sight.actor

-- these identifiers, whether the ring allowed each crash, and these principals
abbrev pub known_as : List ℕ → Bool → List ℕ → Known
known_as ids premise principals = record { ids = ids; premise = premise; principals = principals }

-- the ring has or had a node of this number, which is a principal if it is still a member and the
-- ring allowed each crash
abbrev pub Stands : Bool → Ring → ℕ → Type 0
Stands premise ring number =
    (number < length ring.members)
    × (premise ≡ true → IsTrue (is_member ring.members number) → IsPrincipal ring.members number)

-- the registrar knows this of the ring of this scene
pub record Knows (scene : Scene) (known : Known) : Type 0 where
  pub ids : scene.ring.ids ≡ known.ids
  pub premise : scene.premise ≡ known.premise
  pub principals : All (Stands scene.premise scene.ring) known.principals

-- what a view says is true of this scene
abbrev pub IsTrueOf : Scene → View → Type 0
IsTrueOf scene (Admitted nodes callers known taken) =
    (node_numbers scene.world ≡ nodes) × (caller_numbers scene.world ≡ callers)
    × Knows scene known × AllDiffer taken × All (IsSeenIn scene) taken
IsTrueOf scene (Shown actor messages) =
    IsSeenIn scene (record { actor = actor; messages = messages })
IsTrueOf scene (Together sights) = AllDiffer sights × All (IsSeenIn scene) sights
IsTrueOf scene (Witnessed callers) = All (WasThere scene.world) callers
IsTrueOf scene (Sent message) = Contains scene.world.sent message
IsTrueOf scene (Standing number) = Stands scene.premise scene.ring number
IsTrueOf scene Spent = Unit {0}

-- two of these sights are of one actor
abbrev pub ShareOne : List Sight → List Sight → Type 0
ShareOne sights [] = ⊥
ShareOne sights (other ∷ rest) = OneIs sights other.actor ⊎ ShareOne sights rest

-- Both views belong to one actor, or both to the registrar. The registrar's view belongs to each
-- actor whose seat it took in.
abbrev pub HaveOneOwner : View → View → Type 0
HaveOneOwner (Admitted nodes callers known taken) (Admitted others more told given) = Unit {0}
HaveOneOwner (Admitted nodes callers known taken) (Shown actor messages) = OneIs taken actor
HaveOneOwner (Shown actor messages) (Admitted nodes callers known taken) = OneIs taken actor
HaveOneOwner (Shown actor messages) (Shown other more) = AreOne actor other
HaveOneOwner (Admitted nodes callers known taken) (Together sights) = ShareOne taken sights
HaveOneOwner (Shown actor messages) (Together sights) = OneIs sights actor
HaveOneOwner (Together sights) (Admitted nodes callers known taken) = ShareOne taken sights
HaveOneOwner (Together sights) (Shown actor messages) = OneIs sights actor
HaveOneOwner (Together sights) (Together others) = ShareOne sights others
HaveOneOwner _ _ = ⊥

-- the views of all seats are true of this scene, and no actor has two seats
pub record Shows (scene : Scene) (views : List View) : Type 0 where
  pub agrees : (seat : ℕ) (view : View) → get_elem? views seat ≡ some view → IsTrueOf scene view
  pub apart : (seat other : ℕ) (view more : View)
      → get_elem? views seat ≡ some view → get_elem? views other ≡ some more
      → HaveOneOwner view more → seat ≡ other

-- the rule of the table: its seats show a scene that some list of steps leads to, and its ring has
-- the links of the nodes
abbrev pub IsKept : State ℕ View → Type 0
IsKept state = (scene : Scene) × Lived scene × Agrees scene × Shows scene state.views

-- the view is true of some such scene
abbrev pub IsTrueOfSome : View → Type 0
IsTrueOfSome view = (scene : Scene) × Lived scene × Agrees scene × IsTrueOf scene view

-- an actor's view, with this new state
abbrev pub with_actor : Actor → View → View
with_actor new (Shown actor messages) = Shown new messages
with_actor new view = view

-- both actors in one view
abbrev pub paired : View → View → View
paired (Shown actor messages) (Shown other more) =
    Together (record { actor = actor; messages = messages }
    ∷ record { actor = other; messages = more } ∷ [])
paired view other = view

-- the first of the joined actors alone, in this new state
abbrev pub first_with : Actor → View → View
first_with new (Together (sight ∷ rest)) = Shown new sight.messages
first_with new view = view

-- the second of the joined actors alone
abbrev pub second_of : View → View
second_of (Together (sight ∷ second ∷ rest)) = Shown second.actor second.messages
second_of view = Spent

-- the registrar's view with one number more
abbrev pub with_admitted : Actor → View → View
with_admitted (OfNode node crashed) (Admitted nodes callers known taken) =
    let more = record known { ids = known.ids ++ node.links.me.id.number ∷ [] } in
    Admitted (nodes ++ node.number ∷ []) callers more taken
with_admitted (OfCaller caller) (Admitted nodes callers known taken) =
    Admitted nodes (callers ++ caller.number ∷ []) known taken
with_admitted actor view = view

-- an actor's view with this message behind its others
abbrev pub with_message : View → View → View
with_message (Shown actor messages) (Sent message) = Shown actor (messages ++ message ∷ [])
with_message view other = view

-- the witness's view of the caller that this view shows
abbrev pub testimony : View → View
testimony (Shown (OfCaller caller) messages) = Witnessed (caller ∷ [])
testimony view = Spent

-- the callers of both views
abbrev pub joined_witnesses : View → View → View
joined_witnesses (Witnessed callers) (Witnessed more) = Witnessed (callers ++ more)
joined_witnesses view other = view

-- the callers of a witness's view
abbrev pub callers_of : View → List Caller
callers_of (Witnessed callers) = callers
callers_of _ = []

-- the view of an actor's seat that shows this
abbrev pub view_of : Sight → View
view_of sight = Shown sight.actor sight.messages

-- any node, where the proof needs one
abbrev pub no_node : Node
no_node = newborn (alone (record { number = 0; id = record { number = 0 } }) 2) 0

-- any caller, where the proof needs one
abbrev pub no_caller : Caller
no_caller = new_caller 0 1

-- any message, where the proof needs one
abbrev pub no_message : Message
no_message = Full 0 0

-- what an actor's view shows
abbrev pub sight_of : View → Sight
sight_of (Shown actor messages) = record { actor = actor; messages = messages }
sight_of _ = record { actor = OfNode no_node false; messages = [] }

-- the nodes with the actor in front, if it is a node
abbrev pub with_node : Actor → List Node → List Node
with_node (OfNode node crashed) nodes = node ∷ nodes
with_node (OfCaller caller) nodes = nodes

-- the callers with the actor in front, if it is a caller
abbrev pub with_caller : Actor → List Caller → List Caller
with_caller (OfNode node crashed) callers = callers
with_caller (OfCaller caller) callers = caller ∷ callers

-- who is registered, and what is known of the ring
pub record Register : Type 0 where
  pub nodes : List ℕ
  pub callers : List ℕ
  pub ids : List ℕ
  -- whether the ring allowed each crash
  pub premise : Bool
  -- nodes that were principals
  pub principals : List ℕ

-- what the register has of the ring
abbrev pub known_in : Register → Known
known_in register = known_as register.ids register.premise register.principals

-- the registrar's view, with one more actor whose seat it took in
abbrev pub with_seat : View → View → View
with_seat (Admitted nodes callers known taken) (Shown actor messages) =
    Admitted nodes callers known (taken ++ record { actor = actor; messages = messages } ∷ [])
with_seat view other = view

-- what the registrar's seat shows: who is registered, and what each seat that it took in showed
pub record Assembled : Type 0 where
  pub register : Register
  pub taken : List Sight

-- what the registrar's view shows
abbrev pub assembled_of : View → Assembled
assembled_of (Admitted nodes callers known taken) = record {
  register = record {
    nodes = nodes;
    callers = callers;
    ids = known.ids;
    premise = known.premise;
    principals = known.principals;
  };
  taken = taken;
}
assembled_of _ = record {
  register = record { nodes = []; callers = []; ids = []; premise = false; principals = [] };
  taken = [];
}

-- the registrar's view that shows this
abbrev pub view_of_assembled : Assembled → View
view_of_assembled assembled =
    let register = assembled.register in
    Admitted register.nodes register.callers (known_in register) assembled.taken

-- the actors of one kind among them, in that order: `with_actor` puts one in front, if it is of it
abbrev pub among : {A : Type 0} → (Actor → List A → List A) → List Sight → List A
among with_actor [] = []
among with_actor (sight ∷ rest) = with_actor sight.actor (among with_actor rest)

-- the nodes among them
abbrev pub nodes_among : List Sight → List Node
nodes_among sights = among with_node sights

-- the callers among them
abbrev pub callers_among : List Sight → List Caller
callers_among sights = among with_caller sights

-- the numbers of the nodes among them
abbrev pub numbers_among : List Sight → List ℕ
numbers_among sights = map (λ (node : Node). node.number) (nodes_among sights)

-- It took in the seats of as many nodes as are registered. So it has those of all nodes, since no
-- two seats are of one actor. It may have taken in some of them long ago, and for good: those of
-- nodes that were gone.
pub record HasAllNodes (assembled : Assembled) : Type 0 where
  pub nodes : length (nodes_among assembled.taken) ≡ length assembled.register.nodes

-- it took in the seats of all that are registered
pub record IsWhole (assembled : Assembled) : Type 0 where
  pub nodes : HasAllNodes assembled
  pub callers : length (callers_among assembled.taken) ≡ length assembled.register.callers

-- the register with one number more
abbrev pub with_number : Actor → Register → Register
with_number (OfNode node crashed) register = record register {
  nodes = register.nodes ++ node.number ∷ [];
  ids = register.ids ++ node.links.me.id.number ∷ [];
}
with_number (OfCaller caller) register =
    record register { callers = register.callers ++ caller.number ∷ [] }

-- what a node's seat shows: the node, and whether it crashed
pub record NodeSight : Type 0 where
  pub node : Node
  pub crashed : Bool
  pub messages : List Message

-- what a caller's seat shows
pub record CallerSight : Type 0 where
  pub caller : Caller
  pub messages : List Message

-- the node that the actor is
abbrev pub node_in : Actor → Node
node_in (OfNode node crashed) = node
node_in (OfCaller caller) = no_node

-- whether the actor is a node that crashed
abbrev pub crashed_in : Actor → Bool
crashed_in (OfNode node crashed) = crashed
crashed_in (OfCaller caller) = false

-- the sight of a node, and what a node's seat shows of it
abbrev pub as_actor : NodeSight → Sight
as_actor seat = record { actor = OfNode seat.node seat.crashed; messages = seat.messages }

abbrev pub as_node : Sight → NodeSight
as_node sight = record {
  node = node_in sight.actor;
  crashed = crashed_in sight.actor;
  messages = sight.messages;
}

-- the caller that the actor is
abbrev pub caller_in : Actor → Caller
caller_in (OfNode node crashed) = no_caller
caller_in (OfCaller caller) = caller

-- the caller after it submitted the call in this message; unchanged if the message is no call
abbrev pub with_submission : Message → Caller → Caller
with_submission (Ask ask) caller = with_request ask.request caller
with_submission message caller = caller

-- the ring has of a node what it had
abbrev pub KeepsPlace : Actor → Actor → Type 0
KeepsPlace (OfNode old crashed) (OfNode new out) = place_of out new ≡ place_of crashed old
KeepsPlace old new = Unit {0}

-- some event leads from the old to the new state and sends this message, if any; it takes in one of
-- these messages or none, and the ring stays as it is
abbrev pub MayBecome : Actor → List Message → Actor → Option Message → Type 0
MayBecome old messages new sent =
    (taken : Option Message) × (done : Option Done) × WasSent messages taken
    × Event old taken new sent done × KeepsPlace old new

-- `MayBecome` of a node
abbrev pub MayAct : Node → List Message → Node → Option Message → Type 0
MayAct old messages new sent =
    (taken : Option Message) × (done : Option Done) × WasSent messages taken
    × NodeStep old taken new sent done

-- `MayBecome` of a caller, which sends this letter, if any
abbrev pub MayCall : Caller → List Message → Caller → Option Letter → Type 0
MayCall old messages new sent =
    (taken : Option Letter) × WasSent messages (letter_sent taken) × CallerStep old taken new sent

-- a first node, which holds the whole circle and knows no other
abbrev pub IsFounder : Node → Type 0
IsFounder node =
    (id : ℕ) × (r : ℕ) × (limit : ℕ) × (id < 2 ^ 128) × (0 < r)
    × (node ≡ founder (alone (record { number = 0; id = record { number = id } }) r) limit)

-- in each ring that has of these two nodes what it has of them here, the first one's new links are
-- a step
abbrev pub IsRingStep : Node → Node → Bool → Node → Type 0
IsRingStep old other crashed new =
    (ring : Ring) → links_of ring.members old.number ≡ place_of false old
    → links_of ring.members other.number ≡ place_of crashed other
    → (step : RingStep) × Step ring step (with_links ring old.number (bare new.links))

-- the first node may take these links beside the second, whose seat is joined to its own
pub record MayRelink (old other : Node) (crashed : Bool) (new : Node) : Type 0 where
  pub links : NodeLinks
  pub me : links.me ≡ old.links.me
  pub is : new ≡ record old { links = links }
  pub before : NodeLinks
  pub placed : place_of false old ≡ Some before
  pub step : IsRingStep old other crashed new

-- the same of actors: the first may become the third, beside the second
abbrev pub MayRelinkTo : Actor → Actor → Actor → Type 0
MayRelinkTo (OfNode old out) (OfNode other crashed) (OfNode new away) =
    (out ≡ false) × (away ≡ false) × MayRelink old other crashed new
MayRelinkTo _ _ _ = ⊥

-- the node may be admitted after the nodes of these numbers
abbrev pub MayFound : List ℕ → Node → Type 0
MayFound nodes node = (nodes ≡ []) × IsFounder node

-- the node may be admitted behind this member: its links are made of that one's, its number is the
-- next, and no node had its identifier
pub record MayJoin (register : Register) (pred node : Node) : Type 0 where
  pub limit : ℕ
  pub live : pred.phase ≢ Gone
  pub new : ¬ Contains register.nodes node.number
  pub next : node.number ≡ length register.ids
  pub is_id : node.links.me.id.number < 2 ^ 128
  pub is_unused : ¬ Contains register.ids node.links.me.id.number
  pub is_between : IsBetween pred.links.me.id.number node.links.me.id.number
      (first_entry pred.links).id.number
  pub is : node ≡ newborn
      (joined_links (record { number = node.number; id = node.links.me.id }) pred.links) limit

-- the last sight of those that the registrar's seat took in is of this member, and the node may be
-- admitted behind it
abbrev pub MayJoinBehind : Assembled → Actor → Type 0
MayJoinBehind assembled (OfNode node crashed) =
    (others : List Sight) × (pred : Node) × (messages : List Message)
    × (assembled.taken ≡ others ++ record { actor = OfNode pred false; messages = messages } ∷ [])
    × (crashed ≡ false) × MayJoin assembled.register pred node
MayJoinBehind assembled (OfCaller caller) = ⊥

-- the actor, crashed if it is the node of this number
abbrev pub crash_actor : ℕ → Actor → Actor
crash_actor number (OfNode node crashed) = OfNode node ((number == node.number) || crashed)
crash_actor number (OfCaller caller) = OfCaller caller

-- the last of these sights, and those before it
abbrev pub last_of : List Sight → Sight
last_of [] = record { actor = OfNode no_node false; messages = [] }
last_of (sight ∷ []) = sight
last_of (sight ∷ second ∷ rest) = last_of (second ∷ rest)

abbrev pub all_but_last : List Sight → List Sight
all_but_last [] = []
all_but_last (sight ∷ []) = []
all_but_last (sight ∷ second ∷ rest) = sight ∷ all_but_last (second ∷ rest)

-- the sight, of a crashed node if it is of the one of this number
abbrev pub crash_sight : ℕ → Sight → Sight
crash_sight number sight =
    record { actor = crash_actor number sight.actor; messages = sight.messages }

-- the registrar's view, once the node of this number crashed, whose seat it took in
abbrev pub with_crashed_node : ℕ → View → View
with_crashed_node number (Admitted nodes callers known taken) =
    Admitted nodes callers known (map (crash_sight number) taken)
with_crashed_node number view = view

-- the node as one that crashed
abbrev pub broken_actor : Actor → Actor
broken_actor (OfNode node crashed) = OfNode node true
broken_actor (OfCaller caller) = OfCaller caller

-- the registrar's view, once the node crashed by force whose seat it took in last
abbrev pub with_broken_node : View → View
with_broken_node (Admitted nodes callers known taken) =
    let last = last_of taken in
    Admitted nodes callers (record known { premise = false })
    (all_but_last taken ++ record { actor = broken_actor last.actor; messages = last.messages } ∷ [])
with_broken_node view = view

-- the registrar's view with this node as one that was a principal
abbrev pub with_principal : View → View → View
with_principal (Admitted nodes callers known taken) (Standing number) =
    Admitted nodes callers (record known { principals = known.principals ++ number ∷ [] }) taken
with_principal view other = view

-- the node that was a principal
abbrev pub standing_of : View → ℕ
standing_of (Standing number) = number
standing_of _ = 0

-- the node once it is gone
abbrev pub gone_node : Node → Node
gone_node node = record node { phase = Gone; limit = 0; buffered = [] }

abbrev pub gone_if : Bool → Node → Node
gone_if true node = gone_node node
gone_if false node = node

-- the sight, of a node that is gone if it is of the one of this number
abbrev pub retire_actor : ℕ → Actor → Actor
retire_actor number (OfNode node crashed) = OfNode (gone_if (number == node.number) node) crashed
retire_actor number (OfCaller caller) = OfCaller caller

abbrev pub retire_sight : ℕ → Sight → Sight
retire_sight number sight =
    record { actor = retire_actor number sight.actor; messages = sight.messages }

-- the registrar's view, once the node of this number is gone, whose seat it took in
abbrev pub with_retired_node : ℕ → View → View
with_retired_node number (Admitted nodes callers known taken) =
    Admitted nodes callers known (map (retire_sight number) taken)
with_retired_node number view = view

-- the node of this number, whose seat was taken in, is leaving, and holds nothing any more
pub record MayRetire (taken : List Sight) (number : ℕ) : Type 0 where
  pub node : Node
  pub messages : List Message
  pub numbered : number ≡ node.number
  pub there : Contains taken (record { actor = OfNode node false; messages = messages })
  pub leaving : node.phase ≡ Leaving
  pub nothing : node.held ≡ []
  pub empty : node.outbox ≡ []

-- the registrar's view without the last sight that it took in
abbrev pub without_last : View → View
without_last (Admitted nodes callers known taken) =
    Admitted nodes callers known (all_but_last taken)
without_last view = view

-- the view of the last seat that the registrar's took in
abbrev pub last_seat : View → View
last_seat (Admitted nodes callers known taken) = view_of (last_of taken)
last_seat view = Spent

-- the caller may be admitted after the callers of these numbers
abbrev pub MayOpen : List ℕ → Caller → Type 0
MayOpen callers caller =
    (¬ Contains callers caller.number)
    × ((window : ℕ) × (1 ≤ window) × (window ≤ 16) × (caller ≡ new_caller caller.number window))

-- the actor may be admitted after those that the registrar's seat shows
abbrev pub MayEnter : Register → Actor → Type 0
MayEnter register (OfNode node crashed) = (crashed ≡ false) × MayFound register.nodes node
MayEnter register (OfCaller caller) = MayOpen register.callers caller
