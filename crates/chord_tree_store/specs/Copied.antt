-- Copies of the pairs of a map. Source: our own.
use Rattle.std.specs.Prelude.{◌≡◌, List}
use Rattle.std.specs.List.{IsDistinct}
use Rattle.chord_map.specs.declared.pair.Pair.{Pair}
use Rattle.chord_map.specs.Map.{has_pair, same_pair}

-- the copies are these pairs, each once, in any order
pub record AreCopies (pairs copies : List Pair) : Type 0 where
  pub each : (q : Pair) → has_pair q copies ≡ has_pair q pairs
  pub once : IsDistinct same_pair copies
