-- What a node does without a message, and the node afterwards.
use Rattle.std.specs.Prelude.{◌≡◌, ◌≢◌, ◌⊎◌, ℕ, ◌+◌, ◌^◌, ◌<◌, ◌≤◌, true, false, Option, None, Some, is_some, List, [], Result, Ok, Err, length, slice_get}
use Rattle.chord_ident.specs.declared.id.Id.{Id}
use Rattle.chord_ident.specs.Circle.{cuts}
use Rattle.chord_segment.specs.declared.fault.SegmentJoinFault.{SegmentJoinFault}
use Rattle.chord_segment.specs.declared.fault.SegmentJoinFault.TheVariants as join
use Rattle.chord_segment.specs.Join.{JoinRefused}
use Rattle.chord_segment.specs.Segment.{Segment, span_joined, stands_twice}
use Rattle.chord_segment.specs.Marks.{mark_of}
use Rattle.chord_handover.specs.Handover.{Part, item_at, part_at, handover_of}
use Rattle.chord_handover.specs.Outbox.{payload_of, part_of_item}
use Rattle.chord_node.specs.declared.fault.CutAtFault.{CutAtFault}
use Rattle.chord_node.specs.declared.fault.CutAtFault.TheVariants as cut
use Rattle.chord_node.specs.declared.fault.MergeFault.{MergeFault}
use Rattle.chord_node.specs.declared.fault.MergeFault.TheVariants as merge
use Rattle.chord_node.specs.declared.fault.GiveFault.{GiveFault}
use Rattle.chord_node.specs.declared.fault.GiveFault.TheVariants as give
use Rattle.chord_node.specs.declared.fault.ResendPartFault.{ResendPartFault}
use Rattle.chord_node.specs.declared.fault.ResendPartFault.TheVariants as resend
use Rattle.chord_node.specs.declared.fault.NotStaying.{NotStaying}
use Rattle.chord_node.specs.declared.fault.RetireFault.{RetireFault}
use Rattle.chord_node.specs.declared.fault.RetireFault.TheVariants as retire
use Rattle.chord_model.specs.declared.message.Message.TheVariants.{Part as PartMessage}
use Rattle.chord_model.specs.declared.phase.Phase.TheVariants.{Staying, Leaving, Gone}
use Rattle.chord_model.specs.Node.{Node, NodeStep, cut_held, joined_held, item_of, without_segment}

-- a move that was done is one step of the node
abbrev pub MoveSteps : {A E : Type 0} → Node → Result A E → Node → Type 0
MoveSteps old (Ok done) new = NodeStep old None new None None
MoveSteps old (Err fault) new = Unit {0}

-- a move that sends a part is one step of the node
abbrev pub SendSteps : {E : Type 0} → Node → Result Part E → Node → Type 0
SendSteps old (Ok part) new = NodeStep old None new (Some (PartMessage part)) None
SendSteps old (Err fault) new = Unit {0}

-- part number `part` of the outbox's item of this receiver and number, if there is such a part
abbrev pub part_in : ℕ → ℕ → ℕ → Node → Option Part
part_in to number part node = part_of_item node.number to number part (payload_of (item_at to number node.outbox))

-- the part is sent again, if there is one
abbrev pub ResendIs : ℕ → ℕ → ℕ → Node → Result Part ResendPartFault → Type 0
ResendIs to number part node (Ok found) = part_in to number part node ≡ Some found
ResendIs to number part node (Err resend.NoPart) = part_in to number part node ≡ None
ResendIs to number part node (Err resend.Memory) = is_some (part_in to number part node) ≡ true

-- a staying node begins to leave
abbrev pub LeaveIs : Node → Result (Unit {0}) NotStaying → Node → Type 0
LeaveIs old (Ok done) new = (old.phase ≡ Staying) × (new ≡ record old { phase = Leaving })
LeaveIs old (Err fault) new = (old.phase ≢ Staying) × (new ≡ old)

-- a leaving node that holds nothing and has an empty outbox has no entries either, and is gone
abbrev pub RetireIs : Node → Result (Unit {0}) RetireFault → Node → Type 0
RetireIs old (Ok done) new =
    (old.phase ≡ Leaving) × (old.held ≡ []) × (old.outbox ≡ []) × (old.entries ≡ []) × (new ≡ record old { phase = Gone; limit = 0; buffered = [] })
RetireIs old (Err retire.NotLeaving) new = (old.phase ≢ Leaving) × (new ≡ old)
RetireIs old (Err retire.NotEmpty) new = (old.phase ≡ Leaving) × ((old.held ≢ []) ⊎ (old.outbox ≢ [])) × (new ≡ old)

-- the segment at this index is cut, if there is one and the cut leaves two parts
abbrev pub CutHeld : ℕ → Id → List Segment → Result (Unit {0}) CutAtFault → List Segment → Type 0
CutHeld place at old (Ok done) new =
    (segment : Segment) × (slice_get old place ≡ Some segment) × (cuts segment.span at ≡ true) × (new ≡ cut_held place segment at old)
CutHeld place at old (Err cut.NoSegment) new = (length old ≤ place) × (new ≡ old)
CutHeld place at old (Err cut.NotInside) new = (segment : Segment) × (slice_get old place ≡ Some segment) × (cuts segment.span at ≡ false) × (new ≡ old)
CutHeld place at old (Err cut.Memory) new = (segment : Segment) × (slice_get old place ≡ Some segment) × (cuts segment.span at ≡ true) × (new ≡ old)

-- the node with other held segments
abbrev pub with_held : List Segment → Node → Node
with_held held node = record node { held = held }

abbrev pub CutAtIs : ℕ → Id → Node → Result (Unit {0}) CutAtFault → Node → Type 0
CutAtIs place at old result new = CutHeld place at old.held result new.held × (new ≡ with_held new.held old)

-- both segments exist, and their join is refused with this fault
abbrev pub RefusedAt : ℕ → ℕ → List Segment → SegmentJoinFault → Type 0
RefusedAt place other old fault =
    (first : Segment) × (second : Segment) × (slice_get old place ≡ Some first) × (slice_get old other ≡ Some second) × (place ≢ other) × JoinRefused first second fault

-- the refusal of a merge, from that of its join
abbrev pub merge_fault_of : SegmentJoinFault → MergeFault
merge_fault_of join.NotAdjacent = merge.NotAdjacent
merge_fault_of join.Overlap = merge.Overlap
merge_fault_of join.Twice = merge.Twice
merge_fault_of join.Memory = merge.Memory

-- the segment at `other` is joined behind the one at `place`, at that index
abbrev pub MergeHeld : ℕ → ℕ → List Segment → Result (Unit {0}) MergeFault → List Segment → Type 0
MergeHeld place other old (Ok done) new =
    (first : Segment) × (second : Segment) × (slice_get old place ≡ Some first) × (slice_get old other ≡ Some second) × (place ≢ other)
    × (first.span.upto ≡ second.span.after) × (cuts (span_joined first.span second.span) first.span.upto ≡ true)
    × (stands_twice first.kept second.kept ≡ false) × (new ≡ joined_held place first other second old)
MergeHeld place other old (Err merge.NoSegment) new = ((length old ≤ place) ⊎ ((length old ≤ other) ⊎ (place ≡ other))) × (new ≡ old)
MergeHeld place other old (Err merge.NotAdjacent) new = RefusedAt place other old join.NotAdjacent × (new ≡ old)
MergeHeld place other old (Err merge.Overlap) new = RefusedAt place other old join.Overlap × (new ≡ old)
MergeHeld place other old (Err merge.Twice) new = RefusedAt place other old join.Twice × (new ≡ old)
MergeHeld place other old (Err merge.Memory) new = RefusedAt place other old join.Memory × (new ≡ old)

abbrev pub MergeIs : ℕ → ℕ → Node → Result (Unit {0}) MergeFault → Node → Type 0
MergeIs place other old result new = MergeHeld place other old.held result new.held × (new ≡ with_held new.held old)

-- the segment at this index goes into the outbox with its pairs, and its first part is answered
abbrev pub GiveIs : ℕ → ℕ → Node → Result Part GiveFault → Node → Type 0
GiveIs place to old (Ok part) new =
    (segment : Segment) × (slice_get old.held place ≡ Some segment) × (mark_of to old.given + 1 < 2 ^ 64) × (part ≡ part_at (handover_of old.number (item_of segment to old)) 1)
    × (new ≡ without_segment place segment to old)
GiveIs place to old (Err give.NoSegment) new = (length old.held ≤ place) × (new ≡ old)
GiveIs place to old (Err give.NumbersSpent) new = (place < length old.held) × (2 ^ 64 ≤ mark_of to old.given + 1) × (new ≡ old)
GiveIs place to old (Err give.Memory) new = (place < length old.held) × (mark_of to old.given + 1 < 2 ^ 64) × (new ≡ old)

-- whether the segment at this index may be given, unless memory runs out
abbrev pub MayGive : ℕ → ℕ → Node → Result (Unit {0}) GiveFault → Type 0
MayGive place to node (Ok may) = GiveIs place to node (Err give.Memory) node
MayGive place to node (Err fault) = GiveIs place to node (Err fault) node
