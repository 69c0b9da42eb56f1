-- The counts of a load's report. Source: our own.
use Rattle.std.specs.Prelude.{ℕ, ◌+◌, ◌-◌, ◌^◌, min, Option, Some, None}

-- the sum of two counts, at most 2^64 - 1
abbrev pub added : ℕ → ℕ → ℕ
added one other = min (one + other) (2 ^ 64 - 1)

-- the sum of two counts; one that is not kept counts nothing
abbrev pub sum : Option ℕ → Option ℕ → Option ℕ
sum (Some one) (Some other) = Some (added one other)
sum (Some count) None = Some count
sum None other = other
