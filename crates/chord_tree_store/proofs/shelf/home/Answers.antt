use Rattle.std.proofs.Common.{◌≤◌, List, length, subst, arith}
use Rattle.chord_tree_store.specs.declared.shard.Shard.{Shard}
use Rattle.chord_tree_store.proofs.Shelving.{no_home, on_err, IsBehind}
use Rattle.chord_tree_store.proofs.shelf.home.Goals as goal

pub returns-in_err-insert-clause-absent : goal.returns-in_err-insert-clause-absent
returns-in_err-insert-clause-absent c =
    let items = c.as_slice.ensures.value in
    let counted = c.count_up_to-behind in
    on_err c.from_residual.result (no_home c.args.shards.now.items c.requires c.args.id counted.result (subst (λ (s : List Shard). counted.result ≤ length s) items counted.ensures.bound) (omega (arith, c.if-behind-gt0.false)) (subst (λ s. IsBehind s c.args.id counted.result) items counted.ensures.behind))
