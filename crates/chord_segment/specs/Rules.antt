-- What holds of every segment.
use Rattle.std.specs.Prelude.{◌≡◌, ◌+◌, ◌<◌, ◌≤◌, true, List}
use Rattle.std.specs.List.{AllByRecursion}
use Rattle.chord_ident.specs.Circle.{in_span}
use Rattle.chord_map.specs.declared.done.Done.{Done}
use Rattle.chord_segment.specs.declared.mark.Mark.{Mark}
use Rattle.chord_map.specs.History.{EachOnce}
use Rattle.chord_segment.specs.Marks.{mark_of}
use Rattle.chord_segment.specs.Segment.{Segment, id_of}

-- the call is above its caller's floor, and at most 16 above it
pub record IsNear (floors : List Mark) (done : Done) : Type 0 where
  pub above : mark_of done.caller floors < done.number
  pub near : done.number ≤ mark_of done.caller floors + 16

-- each kept call's key is in the span and its number near its caller's floor; none is kept twice
pub record IsSegment (segment : Segment) : Type 0 where
  pub inside : AllByRecursion (λ (done : Done). in_span segment.span (id_of done.request) ≡ true) segment.kept
  pub near : AllByRecursion (IsNear segment.floors) segment.kept
  pub once : EachOnce segment.kept
