-- How long requests took, by bounds. Source: our own, over Prometheus's histograms.
use Rattle.std.specs.Prelude.{ℕ, List, nat_le, Option}
use Rattle.std.specs.List.{position}

-- the place of the first bound that is not below a time
abbrev pub place_of : ℕ → List ℕ → Option ℕ
place_of time bounds = position (λ (bound : ℕ). nat_le time bound) bounds
