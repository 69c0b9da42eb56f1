-- What a seat may show.
use Rattle.std.specs.Prelude.{ℕ, Bool, List}
use Rattle.chord_caller.specs.Caller.{Caller}
use Rattle.chord_model.specs.declared.message.Message.{Message}
use Rattle.chord_model.specs.Node.{Node}

-- the state of an actor, which is a node, with whether it crashed, or a caller
pub data Actor : Type 0 where
  OfNode : Node → Bool → Actor
  OfCaller : Caller → Actor

-- an actor, and messages that came to it
pub record Sight : Type 0 where
  pub actor : Actor
  pub messages : List Message

-- what the registrar's seat shows of the ring: the identifiers of all nodes that ever were, whether
-- the ring allowed each crash, and nodes that were principals
pub record Known : Type 0 where
  pub ids : List ℕ
  pub premise : Bool
  pub principals : List ℕ

-- what a seat shows
pub data View : Type 0 where
  -- the registrar's: the numbers of nodes and callers, what it knows of the ring, and what each
  -- seat that it took in showed
  Admitted : (nodes callers : List ℕ) → Known → List Sight → View
  -- an actor, and messages that were sent
  Shown : Actor → List Message → View
  -- actors, no two of them one, whose seats were joined
  Together : List Sight → View
  -- callers, each as it was at some time
  Witnessed : List Caller → View
  -- one message that was sent
  Sent : Message → View
  -- a node that was a principal of the ring
  Standing : ℕ → View
  -- nothing
  Spent : View
