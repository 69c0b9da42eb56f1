-- Statement 13 of 15: a world, that is nodes, callers, messages and the history; and the steps
-- between worlds.
use Rattle.std.specs.Prelude.{◌≡◌, ◌≢◌, ℕ, ◌^◌, ◌<◌, ◌≤◌, ◌&&◌, ◌==◌, nat_lt, if◌then◌else◌, Option, None, Some, List, [], ◌∷◌, ◌++◌, filter, find, map, flat_map, Contains, All}
use Rattle.chord_caller.specs.Caller.{Letter, Caller, CallerStep, Submission, submission_at, seen_at}
use Rattle.chord_handover.specs.Handover.{Item}
use Rattle.chord_links.specs.NodeLinks.{NodeLinks}
use Rattle.chord_ident.specs.Circle.{in_span}
use Rattle.chord_model.specs.declared.holder.Holder.{Holder}
use Rattle.chord_model.specs.declared.holder.Holder.TheVariants as holder
use Rattle.chord_model.specs.declared.message.Message.{Message}
use Rattle.chord_model.specs.Letters.{letter_sent}
use Rattle.chord_model.specs.Node.{Node, NodeStep, newborn, founder}
use Rattle.chord_map.specs.declared.done.Done.{Done}
use Rattle.chord_map.specs.History.{StandsIn}
use Rattle.chord_segment.specs.Marks.{mark_of}
use Rattle.chord_segment.specs.Segment.{Segment}

-- the nodes, the callers, the messages and the history
pub record World : Type 0 where
  pub nodes : List Node
  pub callers : List Caller
  -- every message ever sent
  pub sent : List Message
  pub history : List Done

-- the world in which nothing has happened
abbrev pub empty_world : World
empty_world = record { nodes = []; callers = []; sent = []; history = [] }

-- the list, with x in place of the first that has its number
abbrev pub put_in_place : {A : Type 0} → (A → ℕ) → A → List A → List A
put_in_place number_of x [] = []
put_in_place number_of x (y ∷ ys) = if number_of y == number_of x then x ∷ ys else y ∷ put_in_place number_of x ys

-- the node of this number
unfoldable pub node_at : ℕ → List Node → Option Node
node_at number nodes = find (λ (node : Node). node.number == number) nodes

-- the nodes, with this one in place of that of its number
unfoldable pub put_node : Node → List Node → List Node
put_node node nodes = put_in_place (λ (n : Node). n.number) node nodes

-- the caller of this number
unfoldable pub caller_at : ℕ → List Caller → Option Caller
caller_at number callers = find (λ (caller : Caller). caller.number == number) callers

-- the callers, with this one in place of that of its number
unfoldable pub put_caller : Caller → List Caller → List Caller
put_caller caller callers = put_in_place (λ (c : Caller). c.number) caller callers

-- the list with one more at its end, if there is one
abbrev pub with_one : {A : Type 0} → List A → Option A → List A
with_one xs None = xs
with_one xs (Some x) = xs ++ x ∷ []

-- the message that is taken in, if any, was sent before
abbrev pub WasSent : List Message → Option Message → Type 0
WasSent sent None = Unit {0}
WasSent sent (Some message) = Contains sent message

-- One step of one actor. A message may be taken in at any time, any number of times, or never: then
-- it is lost.
pub data WorldStep (old : World) : World → Type 0 where
  -- the first node is created; it holds the whole circle
  Creates : (links : NodeLinks) (limit : ℕ) → links.me.id.number < 2 ^ 128 → old.nodes ≡ []
      → WorldStep old (record old { nodes = founder links limit ∷ [] })
  -- a node with a new number joins; it holds nothing
  Joins : (links : NodeLinks) (limit : ℕ) → links.me.id.number < 2 ^ 128 → old.nodes ≢ [] → node_at links.me.number old.nodes ≡ None
      → WorldStep old (record old { nodes = old.nodes ++ newborn links limit ∷ [] })
  -- a caller with a new number is opened
  Opens : (number window : ℕ) → 1 ≤ window → window ≤ 16 → caller_at number old.callers ≡ None
      → WorldStep old (record old { callers = old.callers ++ record { number = number; window = window; submitted = []; mine = []; told = []; given_up = [] } ∷ [] })
  -- a caller takes a step
  Calls : (number : ℕ) (caller after : Caller) (taken sent : Option Letter) → caller_at number old.callers ≡ Some caller
      → WasSent old.sent (letter_sent taken) → CallerStep caller taken after sent
      → WorldStep old (record old { callers = put_caller after old.callers; sent = with_one old.sent (letter_sent sent) })
  -- a node takes a step
  Acts : (number : ℕ) (node after : Node) (taken sent : Option Message) (done : Option Done) → node_at number old.nodes ≡ Some node
      → WasSent old.sent taken → NodeStep node taken after sent done
      → WorldStep old (record old { nodes = put_node after old.nodes; sent = with_one old.sent sent; history = with_one old.history done })

-- a list of steps from the first world
pub data Run (first : World) : World → Type 0 where
  Stays : Run first first
  Goes_on : {middle last : World} → Run first middle → WorldStep middle last → Run first last

-- some list of steps leads to the world from the empty one
abbrev pub Reached : World → Type 0
Reached world = Run empty_world world

-- the last number that node `to` took from node `from`
abbrev pub taken_by : Option Node → ℕ → ℕ
taken_by None from = 0
taken_by (Some node) from = mark_of from node.taken

unfoldable pub last_taken : List Node → ℕ → ℕ → ℕ
last_taken nodes to from = taken_by (node_at to nodes) from

-- the node, once for each held segment that contains x
abbrev pub at_node : ℕ → Node → List Holder
at_node x node =
    map (λ (segment : Segment). holder.Node node.number) (filter (λ (segment : Segment). in_span segment.span x) node.held)

-- the node's handovers of x that the receiver has not taken
abbrev pub holders_under_way : ℕ → (ℕ → ℕ → ℕ) → Node → List Holder
holders_under_way x taken node =
    map (λ (item : Item). holder.UnderWay node.number item.to item.number)
    (filter (λ (item : Item). in_span item.segment.span x && nat_lt (taken item.to node.number) item.number) node.outbox)

-- all holders of x
abbrev pub holders : ℕ → List Node → List Holder
holders x nodes = flat_map (λ (node : Node). at_node x node ++ holders_under_way x (last_taken nodes) node) nodes

-- x has exactly one holder
abbrev pub HasOneHolder : ℕ → List Node → Type 0
HasOneHolder x nodes = (holder : Holder) × (holders x nodes ≡ holder ∷ [])

-- each request comes in the history after all that its caller had seen when it submitted it
abbrev pub InOrder : World → Type 0
InOrder world =
    (caller : Caller) (number : ℕ) (submission : Submission) (before behind : List Done) (done : Done)
    → caller_at caller.number world.callers ≡ Some caller → submission_at number caller.submitted ≡ Some submission
    → world.history ≡ before ++ done ∷ behind → done.caller ≡ caller.number → done.number ≡ number
    → All (StandsIn before) (seen_at caller submission)
