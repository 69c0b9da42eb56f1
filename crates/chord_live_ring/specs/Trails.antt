-- How a request is seen to go round. Source: R. P. Brent, BIT 20 (1980), 176 to 184.
use Rattle.std.specs.Prelude.{ℕ, if◌then◌else◌}
use Rattle.std.specs.Int.{is_power_of_two}
use Rattle.chord_live_ring.specs.Deeds.{one_more}
use Rattle.chord_live_ring.specs.declared.trail.Trail.{Trail}

-- The way of a request that came to one more node, which is marked if it came so to a power of two
-- of hops
abbrev pub next_trail : ℕ → Trail → Trail
next_trail node trail = record {
  marked = if is_power_of_two (one_more trail.hops) then node else trail.marked;
  hops = one_more trail.hops;
}
