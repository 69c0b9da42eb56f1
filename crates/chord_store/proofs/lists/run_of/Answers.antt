use Rattle.std.proofs.Common.{◌-◌, ◌∙◌, rules, ap, arith, sym, take, drop, length, length-drop}
use Rattle.std.proofs.lemmas.List.{take_all}
use Rattle.std.specs.Ordering.{is_le, is_lt}
use Rattle.std.proofs.lemmas.List.Sorted.{IsPartitionPoint-from_clause}
use Rattle.chord_map.specs.declared.pair.Pair.{Pair}
use Rattle.chord_store.proofs.Runs.{stands, parted_lt, parted_le, in_order, run_is}
use Rattle.chord_store.proofs.lists.run_of.Goals as goal

pub slice_bounds-result-count-2 : goal.slice_bounds-result-count-2
slice_bounds-result-count-2 c =
    let pairs = c.args.pairs.now in
    let key = c.args.key.now in
    let starts = IsPartitionPoint-from_clause (λ (p : Pair). is_lt (stands key p)) pairs _ c.partition_point-start.ensures.partitioned (parted_lt pairs c.requires key) (λ a r f called. (search rules, search rules)) in
    let ends = IsPartitionPoint-from_clause (λ (p : Pair). is_le (stands key p)) pairs _ c.partition_point-end.ensures.partitioned (parted_le pairs c.requires key) (λ a r f called. (search rules, search rules)) in
    in_order pairs key c.partition_point-start.result c.partition_point-end.result starts ends c.partition_point-start.ensures.bound c.partition_point-end.ensures.bound

pub returns : goal.returns
returns c =
    let pairs = c.args.pairs.now in
    let key = c.args.key.now in
    let starts = IsPartitionPoint-from_clause (λ (p : Pair). is_lt (stands key p)) pairs _ c.partition_point-start.ensures.partitioned (parted_lt pairs c.requires key) (λ a r f called. (search rules, search rules)) in
    let ends = IsPartitionPoint-from_clause (λ (p : Pair). is_le (stands key p)) pairs _ c.partition_point-end.ensures.partitioned (parted_le pairs c.requires key) (λ a r f called. (search rules, search rules)) in
    ap (take (c.partition_point-end.result - c.partition_point-start.result)) (take_all (length pairs - c.partition_point-start.result) (drop c.partition_point-start.result pairs) (omega (arith, length-drop c.partition_point-start.result pairs)))
    ∙ sym (run_is pairs key c.partition_point-start.result c.partition_point-end.result starts ends c.partition_point-start.ensures.bound c.partition_point-end.ensures.bound)
