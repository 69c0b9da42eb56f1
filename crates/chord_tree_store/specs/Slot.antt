-- The pairs of one identifier. Source: our own.
use Rattle.std.specs.Prelude.{ℕ, List, [], map, Option, None, Some}
use Rattle.chord_map.specs.declared.pair.Pair.{Pair}
use Rattle.chord_tree_store.specs.declared.slot.Slot.{Slot}
use Rattle.chord_tree_store.specs.declared.slot.Slot.TheVariants.{One, Many}

-- the pairs of one key
abbrev pub pairs_under : List ℕ → List (List ℕ) → List Pair
pairs_under key values = map (λ (value : List ℕ). record { key = key; value = value }) values

-- the pairs of a slot
abbrev pub pairs_of : Slot → List Pair
pairs_of (One key set) = pairs_under key set.values
pairs_of (Many list) = list.value

-- the pairs of a slot, if it is there
abbrev pub pairs_at : Option Slot → List Pair
pairs_at None = []
pairs_at (Some slot) = pairs_of slot
