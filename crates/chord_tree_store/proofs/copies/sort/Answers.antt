use Rattle.std.proofs.Common.{rules}
use Rattle.std.specs.Ordering.{is_lt}
use Rattle.std.proofs.lemmas.Fn.{always_returns_same}
use Rattle.std.proofs.lemmas.List.MinMax.{ranks_by}
use Rattle.chord_map.specs.declared.pair.Pair.{Pair}
use Rattle.chord_map.specs.Map.{pair_cmp}
use Rattle.chord_map.proofs.MapLemmas.{pairs_total}
use Rattle.chord_tree_store.proofs.Sorting.{sorted_copies}
use Rattle.chord_tree_store.proofs.copies.sort.Goals as goal

pub returns : goal.returns
returns c = λ pairs rises are.
    sorted_copies pairs c.args.copies.now.items _ rises are c.sort_unstable_by.ensures.permutation
    (c.sort_unstable_by.ensures.sorted (λ (x y : Pair). is_lt (pair_cmp x y)) (ranks_by pairs_total (λ (p : Pair). p))
    (always_returns_same _ _ _ (λ a r g called. (search rules, search rules))))
