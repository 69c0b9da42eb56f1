use Rattle.std.proofs.Common.{◌≡◌, ◌≤◌, is_some, take}
use Rattle.std.specs.List.{count_by}
use Rattle.chord_live_ring.proofs.looking.known_fingers.Given as goal

-- the fingers so far are counted
abbrev pub invariant-loop-place : goal.invariant-loop-place
invariant-loop-place l = (l.known ≡ count_by is_some (take l.place l.fingers.nodes)) × (l.known ≤ l.place)
