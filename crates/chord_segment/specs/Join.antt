-- What a cut and a join answer.
use Rattle.std.specs.Prelude.{◌≡◌, ◌≢◌, true, false, Result, Ok, Err}
use Rattle.chord_ident.specs.declared.id.Id.{Id}
use Rattle.chord_ident.specs.Circle.{cuts}
use Rattle.chord_segment.specs.declared.fault.CutFault.{CutFault}
use Rattle.chord_segment.specs.declared.fault.CutFault.TheVariants.{NotInside, Memory as CutMemory}
use Rattle.chord_segment.specs.declared.fault.SegmentJoinFault.{SegmentJoinFault}
use Rattle.chord_segment.specs.declared.fault.SegmentJoinFault.TheVariants.{NotAdjacent, Overlap, Twice, Memory as JoinMemory}
use Rattle.chord_segment.specs.declared.fault.Uncut.{Uncut}
use Rattle.chord_segment.specs.declared.fault.Unjoined.{Unjoined}
use Rattle.chord_segment.specs.Segment.{Segment, RoomySegment, part_before, part_behind, span_joined, joined_segment, stands_twice}

-- the first refusal of a cut that fits
abbrev pub CutRefused : Id → Segment → CutFault → Type 0
CutRefused at segment NotInside = cuts segment.span at ≡ false
CutRefused at segment CutMemory = cuts segment.span at ≡ true

-- a cut leaves the part before the point and answers the part behind it, or nothing changes
abbrev pub CutIs : Id → Segment → Result RoomySegment CutFault → Segment → Type 0
CutIs at old (Ok second) new = (cuts old.span at ≡ true) × (new ≡ part_before at old) × (second.segment ≡ part_behind at old)
CutIs at old (Err fault) new = CutRefused at old fault × (new ≡ old)

-- a cut answers both parts, or gives the segment back
abbrev pub PartsAre : Id → Segment → Result (RoomySegment × RoomySegment) Uncut → Type 0
PartsAre at segment (Ok parts) = (cuts segment.span at ≡ true) × ((parts.0).segment ≡ part_before at segment) × ((parts.1).segment ≡ part_behind at segment)
PartsAre at segment (Err uncut) = CutRefused at segment uncut.fault × (uncut.segment.segment ≡ segment)

-- the second segment begins where the first ends
abbrev pub IsNext : Segment → Segment → Type 0
IsNext first second = first.span.upto ≡ second.span.after

-- the segments do not meet: a cut of the joined span where the first ends would part them again
abbrev pub IsApart : Segment → Segment → Type 0
IsApart first second = cuts (span_joined first.span second.span) first.span.upto ≡ true

-- the first refusal of a join that fits
abbrev pub JoinRefused : Segment → Segment → SegmentJoinFault → Type 0
JoinRefused first second NotAdjacent = first.span.upto ≢ second.span.after
JoinRefused first second Overlap = IsNext first second × (cuts (span_joined first.span second.span) first.span.upto ≡ false)
JoinRefused first second Twice = IsNext first second × IsApart first second × (stands_twice first.kept second.kept ≡ true)
JoinRefused first second JoinMemory = IsNext first second × IsApart first second × (stands_twice first.kept second.kept ≡ false)

-- neighbours that do not meet and share no kept call are joined into the first; or nothing changes
abbrev pub JoinIs : Segment → Segment → Result (Unit {0}) SegmentJoinFault → Segment → Type 0
JoinIs first second (Ok done) new = IsNext first second × IsApart first second × (stands_twice first.kept second.kept ≡ false) × (new ≡ joined_segment first second)
JoinIs first second (Err fault) new = JoinRefused first second fault × (new ≡ first)

-- a join answers one segment, or gives both back
abbrev pub WholeIs : Segment → Segment → Result RoomySegment Unjoined → Type 0
WholeIs first second (Ok whole) = IsNext first second × IsApart first second × (stands_twice first.kept second.kept ≡ false) × (whole.segment ≡ joined_segment first second)
WholeIs first second (Err unjoined) = JoinRefused first second unjoined.fault × (unjoined.first.segment ≡ first) × (unjoined.second.segment ≡ second)
