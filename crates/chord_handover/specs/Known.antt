-- Segments of the program as segments of the definitions.
use Rattle.std.specs.Prelude.{Box, Option, None, Some}
use Rattle.std.specs.declared.alloc.Global.{Global}
use Rattle.chord_segment.specs.Segment.{Segment, RoomySegment}

-- the segment, without its room
abbrev pub segment_in : Option RoomySegment → Option Segment
segment_in None = None
segment_in (Some segment) = Some segment.segment

-- the segment in a box, without its room
abbrev pub boxed_in : Option (Box RoomySegment Global) → Option Segment
boxed_in None = None
boxed_in (Some boxed) = Some boxed.value.segment
