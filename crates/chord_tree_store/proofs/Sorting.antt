-- Copies of the pairs of a map, put into order.
use Rattle.std.proofs.Common.{◌≡◌, ◌+◌, false, List, [], get_or, Ordering, Less, Equal, Greater, refl, sym, ap, ◌∙◌, arith}
use Rattle.std.specs.Ordering.{is_lt, ordering_reverse}
use Rattle.std.specs.List.{IsDistinct}
use Rattle.std.specs.List.Sorted.{IsPermutation, IsSortedBy}
use Rattle.std.proofs.lemmas.Bool.{true≢false}
use Rattle.std.proofs.lemmas.List.Sorted.{list_any-IsPermutation}
use Rattle.std.proofs.lemmas.Map.Keys.{IsDistinct-IsPermutation, apart_from_distinct, sorted_from_all_adjacent}
use Rattle.chord_map.specs.declared.pair.Pair.{Pair}
use Rattle.chord_map.specs.Map.{pair_cmp, same_pair}
use Rattle.chord_map.specs.Pairs.{IsRising}
use Rattle.chord_map.proofs.MapLemmas.{pairs_total, same_turned, is_same, tied_same}
use Rattle.chord_map.proofs.Ordered.{rises_from_rising}
use Rattle.chord_map.proofs.Placed.{same_pairs}
use Rattle.chord_tree_store.specs.Copied.{AreCopies}

-- of two pairs that differ, the second of which is not below the first, the first is below the
-- second
below_by : (x y : Pair) (r : Ordering) → pair_cmp x y ≡ r → is_lt (pair_cmp y x) ≡ false → same_pair x y ≡ false → pair_cmp x y ≡ Less
below_by x y Less is ups apart = is
below_by x y Equal is ups apart = absurd (true≢false (sym (is_same x y (tied_same x y is)) ∙ apart))
below_by x y Greater is ups apart = absurd (true≢false (sym (ap is_lt (pairs_total.antisymm y x ∙ ap ordering_reverse is)) ∙ ups))

rising_sorted : (pairs : List Pair) (d : Pair) → IsSortedBy (λ x y. is_lt (pair_cmp x y)) pairs → IsDistinct same_pair pairs → IsRising pairs
rising_sorted pairs d ups once =
    sorted_from_all_adjacent pairs_total pairs d (λ k within.
    below_by (get_or pairs k d) (get_or pairs (k + 1) d) (pair_cmp (get_or pairs k d) (get_or pairs (k + 1) d)) refl
    (ups k d (omega arith) within)
    (apart_from_distinct same_pair pairs k (k + 1) d once (omega arith) within))

pub sorted_copies : (pairs copies sorted : List Pair) → IsRising pairs → AreCopies pairs copies → IsPermutation copies sorted → IsSortedBy (λ x y. is_lt (pair_cmp x y)) sorted → sorted ≡ pairs
sorted_copies pairs copies sorted rises are moved ups =
    let once = IsDistinct-IsPermutation same_pair same_turned copies sorted moved are.once in
    let d : Pair = record { key = []; value = [] } in
    same_pairs sorted pairs (rises_from_rising pair_cmp sorted (rising_sorted sorted d ups once)) (rises_from_rising pair_cmp pairs rises) (λ q.
    sym (list_any-IsPermutation (same_pair q) copies sorted moved) ∙ are.each q)
