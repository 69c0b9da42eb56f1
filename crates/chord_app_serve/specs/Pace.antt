-- How long the upkeep of a ring rests between rounds. Source: our own.
use Rattle.std.specs.Prelude.{ℕ, ◌^◌, ◌-◌, nat_lt, if◌then◌else◌}

-- How many milliseconds the rest lasts behind this many quiet rounds in a row: 1 behind the first
-- 1,000, then twice as long each time, and 250 in the end.
abbrev pub rest_after : ℕ → ℕ
rest_after quiet = if nat_lt quiet 1000 then 1 else if nat_lt quiet 1007 then 2 ^ (quiet - 999) else 250
