use Rattle.std.proofs.Common.{subst, sym, List}
use Rattle.std.specs.List.Sorted.{IsStrictlySortedBy}
use Rattle.chord_map.specs.Pairs.{IsRising}
use Rattle.chord_map.specs.declared.pair.Pair.{Pair}
use Rattle.chord_map.proofs.pair_list.PairList.new.Goals as goal

pub invariant_of-result : goal.invariant_of-result
unfolding IsStrictlySortedBy
invariant_of-result c = subst (λ (ps : List Pair). IsRising ps) (sym c.new.ensures.items) tt
