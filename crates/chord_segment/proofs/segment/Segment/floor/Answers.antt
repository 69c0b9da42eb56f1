use Rattle.std.proofs.Common.{ap, sym, ◌∙◌}
use Rattle.chord_segment.specs.Marks.{mark_of}
use Rattle.chord_segment.specs.Segment.{RoomySegment}
use Rattle.chord_segment.proofs.segment.Segment.floor.Goals as goal

pub returns-in-Some : goal.returns-in-Some
returns-in-Some c = c.floor.ensures ∙ sym c.in-Some.ensures.0 ∙ ap (λ (s : RoomySegment). mark_of c.args.caller s.segment.floors) c.self.view_is

pub returns-in-None : goal.returns-in-None
returns-in-None c = sym c.in-None.ensures.0 ∙ ap (λ (s : RoomySegment). mark_of c.args.caller s.segment.floors) c.self.view_is
