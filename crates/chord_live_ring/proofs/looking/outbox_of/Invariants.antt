use Rattle.std.proofs.Common.{◌≡◌, map, take}
use Rattle.chord_live_ring.specs.Sights.{outbox_sight}
use Rattle.chord_live_ring.proofs.looking.outbox_of.Given as goal

-- the items so far are seen
abbrev pub invariant-loop-place : goal.invariant-loop-place
invariant-loop-place g l = l.items.items ≡ take l.place (map outbox_sight l.node.outbox)
