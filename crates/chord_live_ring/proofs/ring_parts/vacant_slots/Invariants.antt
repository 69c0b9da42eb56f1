use Rattle.std.proofs.Common.{◌≡◌, vec_len}
use Rattle.chord_live_ring.proofs.ring_parts.vacant_slots.Given as goal

-- there is a slot for each round so far
abbrev pub invariant-loop : goal.invariant-loop
invariant-loop g l = vec_len l.slots ≡ l.counter
