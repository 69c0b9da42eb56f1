use Rattle.std.proofs.Common.{rules, leb}
use Rattle.std.proofs.lemmas.List.Sorted.{IsPartitionPoint-from_clause, IsPartitionedBy-leb}
use Rattle.chord_tree_store.specs.declared.shard.Shard.{Shard}
use Rattle.chord_tree_store.specs.Shelf.{first_of}
use Rattle.chord_tree_store.proofs.shelf.count_up_to.Goals as goal

pub returns-clause-behind : goal.returns-clause-behind
returns-clause-behind c =
    IsPartitionPoint-from_clause (λ (s : Shard). leb (first_of s) c.args.id) c.args.shards.now c.partition_point.result c.partition_point.ensures.partitioned
    (IsPartitionedBy-leb first_of c.args.shards.now c.args.id c.requires)
    (λ a r f called. search rules)
