use Rattle.std.proofs.Common.{◌≡◌, ◌≤◌, take}
use Rattle.std.specs.List.{sum_by}
use Rattle.chord_app_operator.specs.Shares.{stretch_length, segment_length}
use Rattle.chord_app_operator.proofs.show.share.hundredths.Given as goal

-- the segments so far
abbrev pub invariant-loop-segment : goal.invariant-loop-segment
invariant-loop-segment l =
    (stretch_length l.stretch ≡ sum_by segment_length (take l.segment-index l.segments)) × (l.stretch.turns ≤ l.segment-index)
