-- A store with a limit of its own.
use Rattle.std.specs.Prelude.{ℕ, List}
use Rattle.chord_map.specs.declared.pair.Pair.{Pair}

-- the store's pairs, and how many it may have at most
pub record Capped : Type 0 where
  pub pairs : List Pair
  pub limit : ℕ
