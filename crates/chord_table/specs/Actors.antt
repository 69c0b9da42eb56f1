-- Nodes and callers alike, as actors of a world.
use Rattle.std.specs.Prelude.{◌≡◌, ℕ, Bool, Option, None, Some, List, [], ◌∷◌, ◌++◌, map}
use Rattle.chord_caller.specs.Caller.{Caller, CallerStep, Letter}
use Rattle.chord_model.specs.declared.message.Message.{Message}
use Rattle.chord_model.specs.Letters.{letter_sent}
use Rattle.chord_model.specs.Node.{Node, NodeStep}
use Rattle.chord_model.specs.World.{World, node_at, put_node, caller_at, put_caller, with_one}
use Rattle.chord_map.specs.declared.done.Done.{Done}
use Rattle.chord_table.specs.Seen.{Actor, OfNode, OfCaller}

-- the world has the actor, in this state
abbrev pub IsThere : World → Actor → Type 0
IsThere world (OfNode node crashed) = node_at node.number world.nodes ≡ Some node
IsThere world (OfCaller caller) = caller_at caller.number world.callers ≡ Some caller

-- both are states of one actor
abbrev pub AreOne : Actor → Actor → Type 0
AreOne (OfNode node crashed) (OfNode other out) = node.number ≡ other.number
AreOne (OfCaller caller) (OfCaller other) = caller.number ≡ other.number
AreOne _ _ = ⊥

-- an event: the actor's old state, the message taken in, its new state, the message sent and the
-- call executed
pub data Event : Actor → Option Message → Actor → Option Message → Option Done → Type 0 where
  Acts : {old new : Node} {crashed : Bool} {taken sent : Option Message} {done : Option Done}
      → NodeStep old taken new sent done
      → Event (OfNode old crashed) taken (OfNode new crashed) sent done
  Calls : {old new : Caller} {taken sent : Option Letter} → CallerStep old taken new sent
      → Event (OfCaller old) (letter_sent taken) (OfCaller new) (letter_sent sent) None

-- the world after an event: this actor in its new state, the message sent and the call executed
abbrev pub world_after : World → Actor → Option Message → Option Done → World
world_after world (OfNode node crashed) sent done =
    record world { nodes = put_node node world.nodes; sent = with_one world.sent sent; history = with_one world.history done }
world_after world (OfCaller caller) sent done =
    record world { callers = put_caller caller world.callers; sent = with_one world.sent sent; history = with_one world.history done }

-- the world with one actor more
abbrev pub world_with : World → Actor → World
world_with world (OfNode node crashed) = record world { nodes = world.nodes ++ node ∷ [] }
world_with world (OfCaller caller) = record world { callers = world.callers ++ caller ∷ [] }

-- the numbers of the nodes
abbrev pub node_numbers : World → List ℕ
node_numbers world = map (λ (node : Node). node.number) world.nodes

-- the numbers of the callers
abbrev pub caller_numbers : World → List ℕ
caller_numbers world = map (λ (caller : Caller). caller.number) world.callers
