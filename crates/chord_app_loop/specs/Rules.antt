-- How connections are served. Source: our own.
use Rattle.std.specs.Prelude.{ℕ, ◌*◌, ◌+◌, ◌^◌, ◌-◌, min, Option, Some, None}

-- How many looks in a row may find a client silent: four a second, and one that may come at once.
abbrev pub most_looks : Option ℕ → Option ℕ
most_looks None = None
most_looks (Some seconds) = Some (min (min (seconds * 4) (2 ^ 64 - 1) + 1) (2 ^ 64 - 1))
