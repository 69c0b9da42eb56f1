-- How many actors there are, which identifiers are taken, and which seats were taken in.
use Rattle.std.specs.Prelude.{ℕ, zero, suc, Bool, List, [], ◌∷◌, ◌++◌}
use Rattle.chord_ident.specs.declared.id.Id.{Id}
use Rattle.chord_table.specs.Seen.{Sight}

-- the numbers below this one, in order
unfoldable pub numbers_below : ℕ → List ℕ
numbers_below zero = []
numbers_below (suc n) = numbers_below n ++ n ∷ []

-- nodes and callers, each numbered from 0, and the identifiers of the nodes in the order admitted
pub record Counts : Type 0 where
  pub nodes : ℕ
  pub callers : ℕ
  pub ids : List Id
  -- whether the ring allowed each crash
  pub premise : Bool
  -- what the seats show that were taken in: those of nodes that are gone for good, and those of the
  -- others for a departure
  pub taken : List Sight
