-- Statement 11 of 15: a node, that is its held segments with their entries, its handovers, and its
-- steps.
use Rattle.std.specs.Prelude.{◌≡◌, ◌≢◌, ℕ, ◌+◌, ◌^◌, ◌<◌, ◌≤◌, not, ◌==◌, if◌then◌else◌, Option, None, Some, List, [], ◌∷◌, ◌++◌, length, filter, find, slice_get, slice_set, insert, remove, true}
use Rattle.chord_ident.specs.declared.id.Id.{Id}
use Rattle.chord_ident.specs.Circle.{in_span, cuts}
use Rattle.chord_links.specs.NodeLinks.{NodeLinks}
use Rattle.chord_map.specs.declared.pair.Pair.{Pair}
use Rattle.chord_map.specs.declared.reply.Reply.{Reply}
use Rattle.chord_map.specs.Map.{reply_to, pairs_after, put_all}
use Rattle.chord_map.specs.declared.reply.Reply.TheVariants.{Added}
use Rattle.chord_store.specs.Inside.{pairs_inside, pairs_outside}
use Rattle.chord_map.specs.declared.done.Done.{Done}
use Rattle.chord_segment.specs.declared.mark.Mark.{Mark}
use Rattle.chord_segment.specs.Marks.{mark_of, raise}
use Rattle.chord_segment.specs.Segment.{Segment, id_of, empty_segment, past_at, append, part_before, part_behind, span_joined, joined_segment}
use Rattle.chord_segment.specs.Segment.Past.{New, Kept, Seen}
use Rattle.chord_handover.specs.declared.ticket.Ticket.{Ticket}
use Rattle.chord_handover.specs.Handover.{Handover, Part, parts_in, part_at, IsWhole, gathered_parts, ticket_of, ticket_of_part, Item, item_at, outbox_without, handover_of}
use Rattle.chord_caller.specs.declared.ask.Ask.{Ask}
use Rattle.chord_caller.specs.declared.told.Told.{Told}
use Rattle.chord_model.specs.declared.phase.Phase.{Phase}
use Rattle.chord_model.specs.declared.phase.Phase.TheVariants as phase
use Rattle.chord_model.specs.declared.message.Message.{Message}
use Rattle.chord_model.specs.declared.message.Message.TheVariants.{Ask as AskMessage, Told as ToldMessage, Full as FullMessage, Part as PartMessage, Got as GotMessage, Declined as DeclinedMessage}

-- `given` is the last number given to each receiver, `taken` the last taken from each sender
pub record Node : Type 0 where
  pub number : ℕ
  pub phase : Phase
  pub links : NodeLinks
  pub held : List Segment
  pub entries : List Pair
  pub limit : ℕ
  pub given : List Mark
  pub outbox : List Item
  pub taken : List Mark
  -- the buffered parts of handovers that are not whole yet
  pub buffered : List Part

-- a node with these links that holds nothing
abbrev pub newborn : NodeLinks → ℕ → Node
newborn links limit =
    record { number = links.me.number; phase = phase.Staying; links = links; held = []; entries = []; limit = limit; given = []; outbox = []; taken = []; buffered = [] }

-- a node that holds the whole circle
abbrev pub founder : NodeLinks → ℕ → Node
founder links limit =
    record (newborn links limit) { held = empty_segment (record { after = links.me.id; upto = links.me.id }) ∷ [] }

-- the held segment whose span contains x
unfoldable pub segment_with : ℕ → List Segment → Option Segment
segment_with x held = find (λ (segment : Segment). in_span segment.span x) held

-- the held segments after the call is kept in the one that contains x
unfoldable pub append_at : ℕ → Done → ℕ → List Segment → List Segment
append_at x done floor [] = []
append_at x done floor (segment ∷ held) =
    if in_span segment.span x then append done floor segment ∷ held else segment ∷ append_at x done floor held

-- the call that an Ask makes, with its reply
abbrev pub done_of : Ask → Reply → Done
done_of ask reply = record { caller = ask.caller; number = ask.number; request = ask.request; reply = reply }

abbrev pub told_of : Ask → Reply → Told
told_of ask reply = record { caller = ask.caller; number = ask.number; reply = reply }

-- the node after it executed a call
abbrev pub with_executed : Ask → Node → Node
with_executed ask node =
    record node {
      held = append_at (id_of ask.request) (done_of ask (reply_to ask.request node.entries)) ask.floor node.held;
      entries = pairs_after ask.request node.entries;
    }

-- the node after it took a handover
abbrev pub with_taken : Handover → Node → Node
with_taken handover node =
    record node {
      held = node.held ++ handover.segment ∷ [];
      entries = put_all handover.pairs node.entries;
      taken = raise handover.from handover.number node.taken;
      buffered = filter (λ (part : Part). not (part.from == handover.from)) node.buffered;
    }

-- the node after it took an item back from its outbox
abbrev pub with_back : Item → Node → Node
with_back item node =
    record node {
      held = node.held ++ item.segment ∷ [];
      entries = put_all item.pairs node.entries;
      outbox = outbox_without item.to item.number node.outbox;
    }

-- the item that hands a segment over to the node `to`
abbrev pub item_of : Segment → ℕ → Node → Item
item_of segment to node =
    record { to = to; number = mark_of to node.given + 1; segment = segment; pairs = pairs_inside segment.span node.entries }

-- the node after it moved the segment at this index into its outbox
abbrev pub without_segment : ℕ → Segment → ℕ → Node → Node
without_segment place segment to node =
    record node {
      held = remove node.held place;
      entries = pairs_outside segment.span node.entries;
      given = raise to (mark_of to node.given + 1) node.given;
      outbox = node.outbox ++ item_of segment to node ∷ [];
    }

-- the held segments after a cut of the one at this index
abbrev pub cut_held : ℕ → Segment → Id → List Segment → List Segment
cut_held place segment at held = insert (slice_set held place (part_before at segment)) (place + 1) (part_behind at segment)

-- the held segments after the second was joined behind the first, at the first one's index
abbrev pub joined_held : ℕ → Segment → ℕ → Segment → List Segment → List Segment
joined_held place first place_behind second held = remove (slice_set held place (joined_segment first second)) place_behind

-- From old, having taken in the first message, if any, the node may become new, send the second, if
-- any, and execute this call, if any.
pub data NodeStep (old : Node) : Option Message → Node → Option Message → Option Done → Type 0 where
  -- a call that was executed and is kept: its reply is sent again
  Tells_again : (ask : Ask) (segment : Segment) (done : Done)
      → segment_with (id_of ask.request) old.held ≡ Some segment → past_at ask.caller ask.number segment ≡ Kept done
      → NodeStep old (Some (AskMessage ask)) old (Some (ToldMessage (told_of ask done.reply))) None
  -- a call whose reply its caller took: dropped
  Drops_seen : (ask : Ask) (segment : Segment)
      → segment_with (id_of ask.request) old.held ≡ Some segment → past_at ask.caller ask.number segment ≡ Seen
      → NodeStep old (Some (AskMessage ask)) old None None
  -- a new call is executed
  Executes : (ask : Ask) (segment : Segment)
      → segment_with (id_of ask.request) old.held ≡ Some segment → past_at ask.caller ask.number segment ≡ New
      → NodeStep old (Some (AskMessage ask)) (with_executed ask old)
      (Some (ToldMessage (told_of ask (reply_to ask.request old.entries))))
      (Some (done_of ask (reply_to ask.request old.entries)))
  -- a new call that would add a pair to a full store: answered Full
  Answers_full : (ask : Ask) (segment : Segment)
      → segment_with (id_of ask.request) old.held ≡ Some segment → past_at ask.caller ask.number segment ≡ New
      → reply_to ask.request old.entries ≡ Added → old.limit ≤ length old.entries
      → NodeStep old (Some (AskMessage ask)) old (Some (FullMessage ask.caller ask.number)) None
  -- a call for another node is sent on, with fewer hops
  Forwards : (ask : Ask) (hops : ℕ) → segment_with (id_of ask.request) old.held ≡ None → hops < ask.hops
      → NodeStep old (Some (AskMessage ask)) old (Some (AskMessage (record ask { hops = hops }))) None
  -- or is dropped
  Drops : (ask : Ask) → segment_with (id_of ask.request) old.held ≡ None → NodeStep old (Some (AskMessage ask)) old None None
  -- a part of a handover that was taken: Got is sent again
  Got_again : (part : Part) → part.to ≡ old.number → part.number ≤ mark_of part.from old.taken
      → NodeStep old (Some (PartMessage part)) old (Some (GotMessage (ticket_of_part part))) None
  -- a part that comes after the node is gone: Declined
  Declines : (part : Part) → part.to ≡ old.number → mark_of part.from old.taken < part.number → old.phase ≡ phase.Gone
      → NodeStep old (Some (PartMessage part)) old (Some (DeclinedMessage (ticket_of_part part))) None
  -- a part of the next handover is buffered
  Buffers : (part : Part) → part.to ≡ old.number → part.number ≡ mark_of part.from old.taken + 1 → old.phase ≢ phase.Gone
      → NodeStep old (Some (PartMessage part)) (record old { buffered = old.buffered ++ part ∷ [] }) None None
  -- the next handover is whole with this part, and is taken
  Takes : (part : Part) (handover : Handover) → handover.to ≡ old.number → handover.number ≡ mark_of handover.from old.taken + 1 → old.phase ≢ phase.Gone
      → IsWhole (gathered_parts part old.buffered) handover
      → NodeStep old (Some (PartMessage part)) (with_taken handover old) (Some (GotMessage (ticket_of handover))) None
  -- a part of a handover that is not taken yet: ignored
  Waits : (part : Part) → part.to ≡ old.number → mark_of part.from old.taken < part.number → old.phase ≢ phase.Gone
      → NodeStep old (Some (PartMessage part)) old None None
  -- Got: the receiver took a handover; its item leaves the outbox, if it is there
  Frees : (ticket : Ticket) → ticket.from ≡ old.number
      → NodeStep old (Some (GotMessage ticket)) (record old { outbox = outbox_without ticket.to ticket.number old.outbox }) None None
  -- Declined: the receiver declined a handover, and its segment is held again
  Takes_back : (ticket : Ticket) (item : Item) → ticket.from ≡ old.number → item_at ticket.to ticket.number old.outbox ≡ Some item
      → NodeStep old (Some (DeclinedMessage ticket)) (with_back item old) None None
  -- Declined: or nothing changes
  Keeps : (ticket : Ticket) → ticket.from ≡ old.number → NodeStep old (Some (DeclinedMessage ticket)) old None None
  -- a held segment is cut
  Cuts : (place : ℕ) (segment : Segment) (at : Id) → slice_get old.held place ≡ Some segment → at.number < 2 ^ 128 → cuts segment.span at ≡ true
      → NodeStep old None (record old { held = cut_held place segment at old.held }) None None
  -- two neighbours that do not overlap are joined: a cut where one ends would part them again
  Joins : (place : ℕ) (first : Segment) (place_behind : ℕ) (second : Segment)
      → slice_get old.held place ≡ Some first → slice_get old.held place_behind ≡ Some second → place ≢ place_behind
      → first.span.upto ≡ second.span.after → cuts (span_joined first.span second.span) first.span.upto ≡ true
      → NodeStep old None (record old { held = joined_held place first place_behind second old.held }) None None
  -- a segment with its pairs goes into the outbox, and its first part is sent
  Gives : (place : ℕ) (segment : Segment) (to : ℕ) → slice_get old.held place ≡ Some segment
      → NodeStep old None (without_segment place segment to old) (Some (PartMessage (part_at (handover_of old.number (item_of segment to old)) 1))) None
  -- a part of an item of the outbox is sent, for the first time or again
  Gives_again : (to number part : ℕ) (item : Item) → item_at to number old.outbox ≡ Some item → 1 ≤ part → part ≤ parts_in item.pairs
      → NodeStep old None old (Some (PartMessage (part_at (handover_of old.number item) part))) None
  -- its links change, but not their owner
  Links_change : (links : NodeLinks) → links.me ≡ old.links.me → NodeStep old None (record old { links = links }) None None
  -- it begins to leave
  Leaves : old.phase ≡ phase.Staying → NodeStep old None (record old { phase = phase.Leaving }) None None
  -- a leaving node that holds nothing and has an empty outbox is gone, and its store with it
  Retires : old.phase ≡ phase.Leaving → old.held ≡ [] → old.outbox ≡ []
      → NodeStep old None (record old { phase = phase.Gone; limit = 0; buffered = [] }) None None
