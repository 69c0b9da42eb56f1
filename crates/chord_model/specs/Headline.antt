-- Statement 15 of 15: the headline, that is what holds of every reachable world.
use Rattle.std.specs.Prelude.{◌≡◌, ◌≢◌, ℕ, ◌+◌, ◌<◌, ◌≤◌, Bool, true, Option, None, Some, List, [], ◌∷◌, ◌++◌, length, slice_get, Contains, All, ◌^◌, false}
use Rattle.chord_caller.specs.declared.told.Told.{Told}
use Rattle.chord_caller.specs.Caller.{Caller, Note, Submission, submission_at, is_taken, is_among, is_settled, fresh_for, known_calls}
use Rattle.chord_handover.specs.Handover.{Part, Item}
use Rattle.chord_ident.specs.declared.span.Span.{Span}
use Rattle.chord_ident.specs.Circle.{in_span, key_id}
use Rattle.chord_map.specs.declared.pair.Pair.{Pair}
use Rattle.chord_map.specs.declared.reply.Reply.{Reply}
use Rattle.chord_map.specs.declared.request.Request.{Request}
use Rattle.chord_map.specs.Map.{values_at, fits}
use Rattle.chord_model.specs.declared.phase.Phase.TheVariants.{Gone}
use Rattle.chord_model.specs.declared.message.Message.TheVariants.{Told as ToldMessage, Part as PartMessage, Note as NoteMessage}
use Rattle.chord_model.specs.Node.{Node}
use Rattle.chord_model.specs.Stock.{IsStocked}
use Rattle.chord_model.specs.World.{World, node_at, caller_at, last_taken, HasOneHolder, InOrder}
use Rattle.chord_map.specs.declared.done.Done.{Done}
use Rattle.chord_map.specs.History.{replay, done_at, EachOnce, IsLegal, StandsIn}
use Rattle.chord_segment.specs.Marks.{mark_of}
use Rattle.chord_segment.specs.Segment.{id_of, Segment}

-- a segment with the pairs of its holder: a node, or a handover that its receiver has not taken yet
pub data Holds (nodes : List Node) : Segment → List Pair → Type 0 where
  ByNode : (number : ℕ) (node : Node) (segment : Segment) → node_at number nodes ≡ Some node → Contains node.held segment
      → Holds nodes segment node.entries
  ByHandover : (number : ℕ) (node : Node) (item : Item) → node_at number nodes ≡ Some node → Contains node.outbox item
      → last_taken nodes item.to number < item.number → Holds nodes item.segment item.pairs

-- a segment that a node holds, that is in an outbox, or that was sent
pub data Appears (world : World) : Segment → Type 0 where
  Held : (number : ℕ) (node : Node) (segment : Segment) → node_at number world.nodes ≡ Some node → Contains node.held segment → Appears world segment
  Kept_for : (number : ℕ) (node : Node) (item : Item) → node_at number world.nodes ≡ Some node → Contains node.outbox item → Appears world item.segment
  Sent : (part : Part) (segment : Segment) → Contains world.sent (PartMessage part) → part.segment ≡ Some segment → Appears world segment

-- the request that a caller submitted under a number
abbrev pub request_with : Option Submission → Option Request
request_with None = None
request_with (Some submission) = Some submission.request

abbrev pub submitted_by : Option Caller → ℕ → Option Request
submitted_by None number = None
submitted_by (Some caller) number = request_with (submission_at number caller.submitted)

-- whether a caller settled its call of this number: it took the reply, or gave the call up
abbrev pub was_settled : Option Caller → ℕ → Bool
was_settled None number = Bool.false
was_settled (Some caller) number = is_settled caller number

-- whether the request exists and the reply is of its kind
abbrev pub answers : Reply → Option Request → Bool
answers reply None = Bool.false
answers reply (Some request) = fits reply request

-- what holds of the history, clause by clause
pub record OneHistory (world : World) : Type 0 where
  -- one map, empty at first, gives each reply, and no call is in the history twice
  pub legal : IsLegal world.history
  -- each call was submitted under its number with its request
  pub made : (done : Done) → StandsIn world.history done → submitted_by (caller_at done.caller world.callers) done.number ≡ Some done.request
  -- each reply that a caller took is to a call of its own and in the history;
  -- each call that notes told a caller of is in the history
  pub mine : (number : ℕ) (caller : Caller) → caller_at number world.callers ≡ Some caller
      → All (λ done. (done.caller ≡ number) × StandsIn world.history done) caller.mine
  pub once : (number : ℕ) (caller : Caller) → caller_at number world.callers ≡ Some caller → EachOnce caller.mine
  pub told : (number : ℕ) (caller : Caller) → caller_at number world.callers ≡ Some caller → All (StandsIn world.history) caller.told
  -- no reply to a call that its caller gave up was taken
  pub given_up : (number : ℕ) (caller : Caller) (place : ℕ) → caller_at number world.callers ≡ Some caller → is_among place caller.given_up ≡ true
      → is_taken caller place ≡ false
  -- each call in a note is in the history
  pub noted : (note : Note) → Contains world.sent (NoteMessage note) → All (StandsIn world.history) note.done
  -- each request comes in the history after all that its caller had seen
  pub in_order : InOrder world
  -- No reply is foreign: it answers a submitted request; and its caller takes it, or settled the
  -- request before
  pub owed : (told : Told) → Contains world.sent (ToldMessage told) → answers told.reply (submitted_by (caller_at told.caller world.callers) told.number) ≡ true
  pub stale : (told : Told) (caller : Caller) → Contains world.sent (ToldMessage told) → caller_at told.caller world.callers ≡ Some caller
      → fresh_for told caller ≡ None → is_settled caller told.number ≡ true
  -- the holder's values under a key are those of the replayed history
  pub values : (segment : Segment) (pairs : List Pair) (key : List ℕ) → Holds world.nodes segment pairs → in_span segment.span (key_id key) ≡ true
      → values_at key pairs ≡ values_at key (replay [] world.history)
  -- each executed call above its caller's floor is kept by its holder
  pub kept : (segment : Segment) (pairs : List Pair) (done : Done) → Holds world.nodes segment pairs → StandsIn world.history done
      → in_span segment.span (id_of done.request) ≡ true → mark_of done.caller segment.floors < done.number
      → done_at done.caller done.number segment.kept ≡ Some done
  -- each kept call is in the history
  pub stands : (segment : Segment) → Appears world segment → All (StandsIn world.history) segment.kept
  -- each kept call is above its caller's floor, by at most 16
  pub near : (segment : Segment) → Appears world segment
      → All (λ done. (mark_of done.caller segment.floors < done.number) × (done.number ≤ mark_of done.caller segment.floors + 16)) segment.kept
  -- the calls of all numbers at or below a floor were settled by their caller
  pub floors : (segment : Segment) (number place : ℕ) → Appears world segment → 1 ≤ place → place ≤ mark_of number segment.floors
      → was_settled (caller_at number world.callers) place ≡ true

-- no call is kept in two of the segments
abbrev pub KeepNoneTwice : List Segment → Type 0
KeepNoneTwice held =
    (place other : ℕ) (segment more : Segment) (caller number : ℕ) (done : Done) → slice_get held place ≡ Some segment → slice_get held other ≡ Some more
    → place ≢ other → done_at caller number segment.kept ≡ Some done → done_at caller number more.kept ≡ None

-- What a caller knew at some time comes in the history before each call that it submitted later.
abbrev pub SeenFirst : World → World → Type 0
SeenFirst earlier later =
    (number : ℕ) (caller : Caller) (seen done : Done) (before behind : List Done)
    → caller_at number earlier.callers ≡ Some caller → Contains (known_calls caller) seen
    → later.history ≡ before ++ done ∷ behind → done.caller ≡ number → length caller.submitted < done.number
    → StandsIn before seen

-- no identifier is in both spans
abbrev pub AreDisjoint : Span → Span → Type 0
AreDisjoint a b = (x : ℕ) → x < 2 ^ 128 → in_span a x ≡ true → in_span b x ≡ false

-- the span overlaps none of the segments
abbrev pub MeetsNone : Span → List Segment → Type 0
MeetsNone span held = (place : ℕ) (segment : Segment) → slice_get held place ≡ Some segment → AreDisjoint span segment.span

-- no two of the segments overlap
abbrev pub AllApart : List Segment → Type 0
AllApart held =
    (place other : ℕ) (segment more : Segment) → slice_get held place ≡ Some segment → slice_get held other ≡ Some more
    → place ≢ other → AreDisjoint segment.span more.span

-- a node's segments do not overlap or keep one call twice; its entries are sorted and lie in them
pub record IsWellHeld (node : Node) : Type 0 where
  pub apart : AllApart node.held
  pub once : KeepNoneTwice node.held
  pub stocked : IsStocked node.held node.entries

-- The headline: one history of one map; one holder of each identifier once there is a node; and
-- each node's segments and entries are in order.
pub record Headline (world : World) : Type 0 where
  pub history : OneHistory world
  pub one_holder : world.nodes ≢ [] → (x : ℕ) → x < 2 ^ 128 → HasOneHolder x world.nodes
  pub held : (number : ℕ) (node : Node) → node_at number world.nodes ≡ Some node → IsWellHeld node

-- the part is of its sender's next handover, and the node is not gone
abbrev pub IsNextFor : Node → Part → Type 0
IsNextFor node part = (part.number ≡ mark_of part.from node.taken + 1) × (node.phase ≢ Gone)
