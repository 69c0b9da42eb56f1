-- What holds in every reachable world of callers, messages, the history and the segments.
use Rattle.std.specs.Prelude.{◌≡◌, ◌≢◌, ℕ, ◌+◌, ◌^◌, ◌≤◌, ◌<◌, true, false, ◌⊎◌, Some, List, [], length, slice_get}
use Rattle.chord_caller.specs.declared.ask.Ask.{Ask}
use Rattle.chord_caller.specs.declared.told.Told.{Told}
use Rattle.chord_caller.specs.Caller.{Submission, Caller, submission_at, is_taken, is_among, is_settled, floor_of}
use Rattle.chord_handover.specs.declared.ticket.Ticket.{Ticket}
use Rattle.chord_handover.specs.Handover.{Handover, Part, IsWhole, gathered_parts, Item, item_at}
use Rattle.chord_ident.specs.Circle.{in_span, key_id}
use Rattle.chord_map.proofs.Lists.{Has, Each}
use Rattle.chord_map.proofs.MapLemmas.{RisingPairs}
use Rattle.chord_map.specs.declared.pair.Pair.{Pair}
use Rattle.chord_map.specs.declared.request.Request.{Request}
use Rattle.chord_map.specs.Map.{has_pair, fits}
use Rattle.chord_model.specs.declared.message.Message.{Message}
use Rattle.chord_model.specs.declared.message.Message.TheVariants.{Ask as AskMessage, Told as ToldMessage, Full as FullMessage, Part as PartMessage, Got as GotMessage, Declined as DeclinedMessage, Note as NoteMessage}
use Rattle.chord_model.specs.declared.phase.Phase.{Phase}
use Rattle.chord_model.specs.Node.{Node}
use Rattle.chord_model.specs.World.{World, node_at, InOrder, last_taken, caller_at}
use Rattle.chord_segment.proofs.SegmentLemmas.{EachMark}
use Rattle.chord_map.specs.declared.done.Done.{Done}
use Rattle.chord_map.specs.History.{replay, EachOnce, IsLegal, StandsIn}
use Rattle.chord_segment.specs.declared.mark.Mark.{Mark}
use Rattle.chord_segment.specs.Marks.{mark_of}
use Rattle.chord_segment.specs.Rules.{IsNear}
use Rattle.chord_segment.specs.Segment.{id_of, Segment}

-- the caller submitted this request under this number
pub record Submitted (callers : List Caller) (number place : ℕ) (request : Request) : Type 0 where
  pub caller : Caller
  pub submission : Submission
  pub is_caller : caller_at number callers ≡ Some caller
  pub is_submission : submission_at place caller.submitted ≡ Some submission
  pub is_request : submission.request ≡ request

-- the caller settled its call of this number
pub record HasSettled (callers : List Caller) (number place : ℕ) : Type 0 where
  pub caller : Caller
  pub is_caller : caller_at number callers ≡ Some caller
  pub settled : is_settled caller place ≡ true

-- it settled all its calls up to this number
abbrev pub SettledUpto : List Caller → ℕ → ℕ → Type 0
SettledUpto callers number floor = (place : ℕ) → 1 ≤ place → place ≤ floor → HasSettled callers number place

-- a call that the caller took is its own, with the request that it submitted
pub record IsOwn (caller : Caller) (done : Done) : Type 0 where
  pub submission : Submission
  pub is_caller : done.caller ≡ caller.number
  pub is_submission : submission_at done.number caller.submitted ≡ Some submission
  pub is_request : submission.request ≡ done.request

pub record CallerGood (history : List Done) (caller : Caller) : Type 0 where
  pub own : Each (IsOwn caller) caller.mine
  pub once : EachOnce caller.mine
  pub mine_stand : Each (StandsIn history) caller.mine
  pub told_stand : Each (StandsIn history) caller.told
  pub seen : (place : ℕ) (submission : Submission) → submission_at place caller.submitted ≡ Some submission
      → (submission.mine_seen ≤ length caller.mine) × (submission.told_seen ≤ length caller.told)
  pub apart : (place : ℕ) → is_among place caller.given_up ≡ true → is_taken caller place ≡ false
  pub window : caller.window ≤ 16
  pub near : (place : ℕ) (submission : Submission) → submission_at place caller.submitted ≡ Some submission → place ≤ floor_of caller + caller.window

-- of a segment, wherever it is: what is below its floors was settled, and its kept calls were executed
pub record SegmentGood (callers : List Caller) (history : List Done) (segment : Segment) : Type 0 where
  pub floors : EachMark (SettledUpto callers) segment.floors
  pub kept : Each (StandsIn history) segment.kept
  pub near : Each (IsNear segment.floors) segment.kept

pub record AskGood (callers : List Caller) (ask : Ask) : Type 0 where
  pub submitted : Submitted callers ask.caller ask.number ask.request
  pub floor : SettledUpto callers ask.caller ask.floor

-- a reply that was sent is the one in the history
pub record ToldGood (history : List Done) (told : Told) : Type 0 where
  pub request : Request
  pub stands : StandsIn history (record { caller = told.caller; number = told.number; request = request; reply = told.reply })

abbrev pub MessageGood : List Caller → List Done → Message → Type 0
MessageGood callers history (AskMessage ask) = AskGood callers ask
MessageGood callers history (ToldMessage told) = ToldGood history told
MessageGood callers history (FullMessage caller number) = Unit {0}
MessageGood callers history (PartMessage part) = (segment : Segment) → part.segment ≡ Some segment → SegmentGood callers history segment
MessageGood callers history (GotMessage ticket) = Unit {0}
MessageGood callers history (DeclinedMessage ticket) = Unit {0}
MessageGood callers history (NoteMessage note) = Each (StandsIn history) note.done

-- an executed call was submitted, and its reply is of its kind
pub record DoneGood (callers : List Caller) (done : Done) : Type 0 where
  pub submitted : Submitted callers done.caller done.number done.request
  pub kind : fits done.reply done.request ≡ true

pub record NodeGood (callers : List Caller) (history : List Done) (node : Node) : Type 0 where
  pub rising : RisingPairs node.entries
  pub held : Each (SegmentGood callers history) node.held
  pub outbox : Each (λ (item : Item). SegmentGood callers history item.segment) node.outbox
  pub outbox_rising : Each (λ (item : Item). RisingPairs item.pairs) node.outbox

-- the pairs and the kept calls are those that the history leaves in the segment's span
pub record Current (history : List Done) (segment : Segment) (pairs : List Pair) : Type 0 where
  pub content : (pair : Pair) → in_span segment.span (key_id pair.key) ≡ true → has_pair pair pairs ≡ has_pair pair (replay [] history)
  pub covered : (done : Done) → StandsIn history done → in_span segment.span (id_of done.request) ≡ true
      → (done.number ≤ mark_of done.caller segment.floors) ⊎ Has segment.kept done

pub record Good (world : World) : Type 0 where
  pub callers : Each (CallerGood world.history) world.callers
  pub messages : Each (MessageGood world.callers world.history) world.sent
  pub executed : (done : Done) → StandsIn world.history done → DoneGood world.callers done
  pub legal : IsLegal world.history
  pub in_order : InOrder world
  pub nodes : Each (NodeGood world.callers world.history) world.nodes
  -- what a node holds is current
  pub held : (number : ℕ) (node : Node) (segment : Segment) → node_at number world.nodes ≡ Some node → Has node.held segment
      → Current world.history segment node.entries
  -- the same holds of handovers under way
  pub under_way : (number : ℕ) (node : Node) (item : Item) → node_at number world.nodes ≡ Some node → Has node.outbox item
      → last_taken world.nodes item.to number < item.number → Current world.history item.segment item.pairs
  -- while there is no node nothing was executed
  pub unbegun : world.nodes ≡ [] → world.history ≡ []

-- What the other part of the theorem proves of every reachable world: no identifier is held twice.
pub record HolderFacts (world : World) : Type 0 where
  -- a node holds no identifier in two segments
  pub apart_at_node : (number : ℕ) (node : Node) (first second : ℕ) (one other : Segment) (x : ℕ) → node_at number world.nodes ≡ Some node
      → slice_get node.held first ≡ Some one → slice_get node.held second ≡ Some other → x < 2 ^ 128
      → in_span one.span x ≡ true → in_span other.span x ≡ true → first ≡ second
  -- two nodes do not hold one identifier
  pub apart_nodes : (first second : ℕ) (one other : Node) (mine theirs : Segment) (x : ℕ) → node_at first world.nodes ≡ Some one
      → node_at second world.nodes ≡ Some other → Has one.held mine → Has other.held theirs → x < 2 ^ 128
      → in_span mine.span x ≡ true → in_span theirs.span x ≡ true → first ≡ second
  -- a node and a handover that was not taken do not either
  pub apart_under_way : (number from : ℕ) (node sender : Node) (segment : Segment) (item : Item) (x : ℕ) → node_at number world.nodes ≡ Some node
      → node_at from world.nodes ≡ Some sender → Has node.held segment → Has sender.outbox item
      → last_taken world.nodes item.to from < item.number → x < 2 ^ 128
      → in_span segment.span x ≡ true → in_span item.segment.span x ≡ true → ⊥
  -- an entry's key lies in a held span
  pub entries_held : (number : ℕ) (node : Node) (pair : Pair) → node_at number world.nodes ≡ Some node → has_pair pair node.entries ≡ true
      → (segment : Segment) × Has node.held segment × (in_span segment.span (key_id pair.key) ≡ true)
  -- the keys of a handover lie in its span
  pub items_inside : (number : ℕ) (node : Node) (item : Item) (pair : Pair) → node_at number world.nodes ≡ Some node → Has node.outbox item
      → has_pair pair item.pairs ≡ true → in_span item.segment.span (key_id pair.key) ≡ true
  -- a handover that is the next to be taken is in its sender's outbox
  pub next_in_outbox : (node : Node) (part : Part) (handover : Handover) → node_at handover.to world.nodes ≡ Some node → Has world.sent (PartMessage part)
      → IsWhole (gathered_parts part node.buffered) handover
      → handover.number ≡ mark_of handover.from node.taken + 1 → node.phase ≢ Phase.Gone
      → (sender : Node) × (item : Item) × (node_at handover.from world.nodes ≡ Some sender) × Has sender.outbox item
      × (item.to ≡ handover.to) × (item.number ≡ handover.number) × (item.segment ≡ handover.segment) × (item.pairs ≡ handover.pairs)
  -- a handover that was declined was not taken
  pub declined_not_taken : (number : ℕ) (node : Node) (ticket : Ticket) (item : Item) → node_at number world.nodes ≡ Some node
      → Has world.sent (DeclinedMessage ticket) → ticket.from ≡ number → item_at ticket.to ticket.number node.outbox ≡ Some item
      → last_taken world.nodes ticket.to number < ticket.number
  -- the ends of held spans are identifiers
  pub spans_bounded : (number : ℕ) (node : Node) (segment : Segment) → node_at number world.nodes ≡ Some node → Has node.held segment
      → (segment.span.after.number < 2 ^ 128) × (segment.span.upto.number < 2 ^ 128)
