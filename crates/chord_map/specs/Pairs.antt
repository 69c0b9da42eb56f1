-- Statement 3 of 15: lists of pairs in order.
use Rattle.std.specs.Prelude.{List}
use Rattle.std.specs.List.Sorted.{IsStrictlySortedBy}
use Rattle.chord_map.specs.declared.pair.Pair.{Pair}
use Rattle.chord_map.specs.Map.{pair_cmp}

-- the pairs are strictly sorted
abbrev pub IsRising : List Pair → Type 0
IsRising pairs = IsStrictlySortedBy pair_cmp pairs
