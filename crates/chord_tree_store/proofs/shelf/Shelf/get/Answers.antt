use Rattle.std.proofs.Common.{◌≤◌, ◌-◌, length, List, slice_index_or, sym, ap, subst, ◌∙◌, arith}
use Rattle.std.specs.Cmp.{nat_cmp_total}
use Rattle.std.specs.FinMap.{get, get-from_entries}
use Rattle.chord_tree_store.specs.declared.shard.Shard.{Shard}
use Rattle.chord_tree_store.proofs.Shelving.{found_get, empty_shelf, IsBehind}
use Rattle.chord_tree_store.proofs.shelf.Shelf.get.Goals as goal

pub returns-then-behind-eq0 : goal.returns-then-behind-eq0
returns-then-behind-eq0 c =
    let items = c.as_slice.ensures.value in
    let counted = c.count_up_to-behind in
    sym (ap (λ m. get m c.args.id) (sym c.self.view_is)
    ∙ get-from_entries nat_cmp_total _ _
    ∙ empty_shelf c.self.inside.shards.items c.self.invariant c.args.id counted.result (subst (λ (s : List Shard). counted.result ≤ length s) items counted.ensures.bound) c.if-behind-eq0.true (subst (λ s. IsBehind s c.args.id counted.result) items counted.ensures.behind))

pub returns-in-Some : goal.returns-in-Some
returns-in-Some c =
    let items = c.as_slice.ensures.value in
    let counted = c.count_up_to-behind in
    let at = c.in-Some.ensures.lookup.1 in
    c.get-in-Some.ensures.value
    ∙ found_get c.self.inside.shards.items c.self.invariant c.args.id counted.result (subst (λ (s : List Shard). counted.result ≤ length s) items counted.ensures.bound) (omega (arith, c.if-behind-eq0.false))
    (subst (λ s. IsBehind s c.args.id counted.result) items counted.ensures.behind) c.in-Some.shard.now (c.in-Some.ensures.lookup.1 ∙ ap (λ (s : List Shard). slice_index_or s (counted.result - 1) c.in-Some.shard.now) c.deref.ensures.value)
    ∙ ap (λ m. get m c.args.id) c.self.view_is
