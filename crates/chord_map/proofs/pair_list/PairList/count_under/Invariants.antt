use Rattle.std.proofs.Common.{◌≡◌, ◌≤◌, take, length}
use Rattle.chord_map.specs.Map.{values_at}
use Rattle.chord_map.proofs.pair_list.PairList.count_under.Given as goal

abbrev pub invariant-loop-pair : goal.invariant-loop-pair
invariant-loop-pair l = record { counted : l.count ≡ length (values_at l.key (take l.pair-index l.pair-items)); small : l.count ≤ l.pair-index }
