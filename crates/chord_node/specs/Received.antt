-- What a node answers to messages of handovers, and the node afterwards.
use Rattle.std.specs.Prelude.{◌≡◌, ◌≢◌, ◌⊎◌, ℕ, ◌+◌, ◌<◌, ◌≤◌, Bool, false, is_some, Option, None, Some, List, [], ◌∷◌, ◌++◌, length, Result, Ok, Err}
use Rattle.std.specs.declared.alloc.AllocError.{AllocError}
use Rattle.chord_map.specs.declared.pair.Pair.{Pair}
use Rattle.chord_map.specs.Map.{put_all}
use Rattle.chord_segment.specs.Marks.{mark_of}
use Rattle.chord_segment.specs.Segment.{Segment}
use Rattle.chord_handover.specs.declared.gather.Gather.TheVariants.{More, Unfit, Whole}
use Rattle.chord_handover.specs.declared.ticket.Ticket.{Ticket}
use Rattle.chord_handover.specs.Gather.{GatherIs, AreWhole}
use Rattle.chord_handover.specs.Handover.{Item, Part, ticket_of_part, item_at, outbox_without}
use Rattle.chord_handover.specs.Payload.{Payload, handover_of_payload}
use Rattle.chord_handover.specs.Taken.{Taken, with_mark, is_buffered, with_buffered}
use Rattle.chord_node.specs.declared.handovers.part_answer.PartAnswer.{PartAnswer}
use Rattle.chord_node.specs.declared.handovers.part_answer.PartAnswer.TheVariants as given
use Rattle.chord_node.specs.declared.handovers.part_answer.Back.{Back}
use Rattle.chord_node.specs.declared.handovers.part_answer.Back.TheVariants as back
use Rattle.chord_node.specs.declared.handovers.hold.PutFault.{PutFault}
use Rattle.chord_node.specs.declared.handovers.hold.PutFault.TheVariants as put
use Rattle.chord_model.specs.declared.message.Message.{Message}
use Rattle.chord_model.specs.declared.message.Message.TheVariants.{Part as PartMessage, Got as GotMessage, Declined as DeclinedMessage}
use Rattle.chord_model.specs.declared.phase.Phase.TheVariants.{Gone}
use Rattle.chord_model.specs.Headline.{IsNextFor}
use Rattle.chord_model.specs.Node.{Node, NodeStep, with_taken, with_back}
use Rattle.chord_model.specs.Stock.{IsClash, IsClear}

-- a payload's pairs go into a store, if its span overlaps no held one and the store has room
abbrev pub PutIs : Payload → List Segment → List Pair → ℕ → Result (Unit {0}) PutFault → List Pair → Type 0
PutIs payload held old limit (Ok done) new =
    IsClear payload.segment.span held × (length old + length payload.pairs ≤ limit) × (new ≡ put_all payload.pairs old)
PutIs payload held old limit (Err put.Clash) new = IsClash payload.segment.span held × (new ≡ old)
PutIs payload held old limit (Err put.Full) new = IsClear payload.segment.span held × (limit < length old + length payload.pairs) × (new ≡ old)
PutIs payload held old limit (Err put.Memory) new = IsClear payload.segment.span held × (length old + length payload.pairs ≤ limit) × (new ≡ old)

-- the sender's next handover, now whole, is taken: its segment, its pairs and its number
abbrev pub WholeIs : Part → Payload → List Segment → List Pair → ℕ → Taken → Result PartAnswer AllocError → List Segment → List Pair → Taken → Type 0
WholeIs part payload held pairs limit taken (Ok given.Got) held' pairs' taken' =
    IsClear payload.segment.span held × (length pairs + length payload.pairs ≤ limit)
    × (held' ≡ held ++ payload.segment ∷ []) × (pairs' ≡ put_all payload.pairs pairs) × (taken' ≡ with_mark part.from taken)
WholeIs part payload held pairs limit taken (Ok given.Clash) held' pairs' taken' =
    IsClash payload.segment.span held × (held' ≡ held) × (pairs' ≡ pairs) × (taken' ≡ taken)
WholeIs part payload held pairs limit taken (Ok given.Full) held' pairs' taken' =
    IsClear payload.segment.span held × (limit < length pairs + length payload.pairs) × (held' ≡ held) × (pairs' ≡ pairs) × (taken' ≡ taken)
WholeIs part payload held pairs limit taken (Ok answer) held' pairs' taken' = ⊥
WholeIs part payload held pairs limit taken (Err fault) held' pairs' taken' = (held' ≡ held) × (pairs' ≡ pairs) × (taken' ≡ taken)

-- a part needs memory if it is buffered for the first time, or makes its payload whole
abbrev pub PartTakesMemory : Part → List Part → Type 0
PartTakesMemory part buffered = (GatherIs part buffered More × (is_buffered part buffered ≡ false)) ⊎ AreWhole part buffered

-- a part of the sender's next handover is buffered, or makes the handover whole
abbrev pub NextIs : Part → List Segment → List Pair → ℕ → Taken → Result PartAnswer AllocError → List Segment → List Pair → Taken → Type 0
NextIs part held pairs limit taken (Ok given.Part) held' pairs' taken' =
    GatherIs part taken.buffered More × (held' ≡ held) × (pairs' ≡ pairs) × (taken' ≡ with_buffered part taken)
NextIs part held pairs limit taken (Ok given.Clash) held' pairs' taken' =
    (GatherIs part taken.buffered Unfit ⊎ ((payload : Payload) × GatherIs part taken.buffered (Whole payload) × IsClash payload.segment.span held))
    × (held' ≡ held) × (pairs' ≡ pairs) × (taken' ≡ taken)
NextIs part held pairs limit taken (Ok answer) held' pairs' taken' =
    (payload : Payload) × GatherIs part taken.buffered (Whole payload) × WholeIs part payload held pairs limit taken (Ok answer) held' pairs' taken'
NextIs part held pairs limit taken (Err fault) held' pairs' taken' = PartTakesMemory part taken.buffered × (held' ≡ held) × (pairs' ≡ pairs) × (taken' ≡ taken)

-- the item leaves the outbox, if it is there
abbrev pub GotIs : Ticket → Node → Bool → Node → Type 0
GotIs ticket old found new =
    (found ≡ is_some (item_at ticket.to ticket.number old.outbox)) × (new ≡ record old { outbox = outbox_without ticket.to ticket.number old.outbox })

-- the item is held again, if the outbox has it, its
-- span overlaps no held one and the store has room
abbrev pub BackIs : Ticket → Node → Result Back AllocError → Node → Type 0
BackIs ticket old (Ok back.Unknown) new = (item_at ticket.to ticket.number old.outbox ≡ None) × (new ≡ old)
BackIs ticket old (Ok back.Held) new =
    (item : Item) × (item_at ticket.to ticket.number old.outbox ≡ Some item) × IsClear item.segment.span old.held
    × (length old.entries + length item.pairs ≤ old.limit) × (new ≡ with_back item old)
BackIs ticket old (Ok back.Clash) new =
    (item : Item) × (item_at ticket.to ticket.number old.outbox ≡ Some item) × IsClash item.segment.span old.held × (new ≡ old)
BackIs ticket old (Ok back.Full) new =
    (item : Item) × (item_at ticket.to ticket.number old.outbox ≡ Some item) × IsClear item.segment.span old.held
    × (old.limit < length old.entries + length item.pairs) × (new ≡ old)
BackIs ticket old (Err fault) new =
    (item : Item) × (item_at ticket.to ticket.number old.outbox ≡ Some item) × IsClear item.segment.span old.held
    × (length old.entries + length item.pairs ≤ old.limit) × (new ≡ old)

-- the answer to a Declined is one step of the node, unless memory ran out
abbrev pub BackSteps : Ticket → Node → Result Back AllocError → Node → Type 0
BackSteps ticket old (Ok answer) new = NodeStep old (Some (DeclinedMessage ticket)) new None None
BackSteps ticket old (Err fault) new = Unit {0}

-- the part is of the next handover, and with the buffered parts makes this payload
abbrev pub IsWholeFor : Node → Part → Payload → Type 0
IsWholeFor node part payload = IsNextFor node part × GatherIs part node.buffered (Whole payload)

-- what a node answers to a part, and the node afterwards
abbrev pub PartIs : Part → Node → Result PartAnswer AllocError → Node → Type 0
PartIs part old (Ok given.Got) new =
    ((part.number ≤ mark_of part.from old.taken) × (new ≡ old))
    ⊎ ((payload : Payload) × IsWholeFor old part payload × IsClear payload.segment.span old.held
    × (length old.entries + length payload.pairs ≤ old.limit) × (new ≡ with_taken (handover_of_payload (ticket_of_part part) payload) old))
PartIs part old (Ok given.Declined) new = (mark_of part.from old.taken < part.number) × (old.phase ≡ Gone) × (new ≡ old)
PartIs part old (Ok given.Early) new = (mark_of part.from old.taken + 1 < part.number) × (old.phase ≢ Gone) × (new ≡ old)
PartIs part old (Ok given.Clash) new =
    IsNextFor old part × (GatherIs part old.buffered Unfit ⊎ ((payload : Payload) × GatherIs part old.buffered (Whole payload) × IsClash payload.segment.span old.held))
    × (new ≡ old)
PartIs part old (Ok given.Full) new =
    (payload : Payload) × IsWholeFor old part payload × IsClear payload.segment.span old.held
    × (old.limit < length old.entries + length payload.pairs) × (new ≡ old)
PartIs part old (Ok given.Part) new =
    IsNextFor old part × GatherIs part old.buffered More × (new ≡ record old { buffered = (with_buffered part (record { last = old.taken; buffered = old.buffered })).buffered })
PartIs part old (Err fault) new = IsNextFor old part × PartTakesMemory part old.buffered × (new ≡ old)

-- the message that an answer to a part sends
abbrev pub sent_for : Part → PartAnswer → Option Message
sent_for part given.Got = Some (GotMessage (ticket_of_part part))
sent_for part given.Declined = Some (DeclinedMessage (ticket_of_part part))
sent_for part answer = None

-- the answer to a part is one step of the node, unless memory ran out
abbrev pub PartSteps : Part → Node → Result PartAnswer AllocError → Node → Type 0
PartSteps part old (Ok answer) new = NodeStep old (Some (PartMessage part)) new (sent_for part answer) None
PartSteps part old (Err fault) new = Unit {0}
