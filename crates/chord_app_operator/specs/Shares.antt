-- The share of the circle that segments have. Source: our own.
use Rattle.std.specs.Prelude.{ℕ, ◌+◌, ◌*◌, ◌/◌, ◌^◌, List}
use Rattle.std.specs.List.{sum_by}
use Rattle.chord_ident.specs.Circle.{walk}
use Rattle.chord_sight.specs.declared.parts.SegmentSight.{SegmentSight}
use Rattle.chord_app_operator.specs.declared.show.share.Stretch.{Stretch}

-- how many identifiers these are
abbrev pub stretch_length : Stretch → ℕ
stretch_length a = a.turns * 2 ^ 128 + a.rest

-- how many identifiers a segment has
abbrev pub segment_length : SegmentSight → ℕ
segment_length s = walk s.span.after.number s.span.upto.number

-- hundredths of a percent of the circle, rounded down
abbrev pub hundredths_of : ℕ → ℕ
hundredths_of n = n * 10000 / 2 ^ 128

-- the share of all segments
abbrev pub share_of : List SegmentSight → ℕ
share_of segments = hundredths_of (sum_by segment_length segments)
