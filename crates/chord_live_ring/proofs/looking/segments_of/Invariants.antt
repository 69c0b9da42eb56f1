use Rattle.std.proofs.Common.{◌≡◌, map, take}
use Rattle.chord_live_ring.specs.Sights.{segment_sight}
use Rattle.chord_live_ring.proofs.looking.segments_of.Given as goal

-- the segments so far are seen
abbrev pub invariant-loop-place : goal.invariant-loop-place
invariant-loop-place g l = l.segments.items ≡ take l.place (map segment_sight l.node.held)
