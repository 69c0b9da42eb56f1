use Rattle.std.proofs.Common.{◌≡◌, take}
use Rattle.chord_map.specs.Map.{values_at}
use Rattle.chord_map.proofs.pair_list.PairList.values.Given as goal

abbrev pub invariant-loop-pair : goal.invariant-loop-pair
invariant-loop-pair l = l.values ≡ values_at l.key (take l.pair-index l.pair-items)
