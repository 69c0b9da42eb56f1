use Rattle.std.proofs.Common.{◌≡◌, vec_len}
use Rattle.chord_live_ring.proofs.ring_parts.empty_inboxes.Given as goal

-- there is an inbox for each round so far
abbrev pub invariant-loop : goal.invariant-loop
invariant-loop g l = vec_len l.inboxes ≡ l.counter
