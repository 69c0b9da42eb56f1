use Rattle.std.proofs.Common.{List, length, ap, ◌∙◌, arith}
use Rattle.chord_map.specs.declared.pair.Pair.{Pair}
use Rattle.chord_store.specs.Inside.{pairs_inside}
use Rattle.chord_tree_store.specs.Slots.{pairs_in}
use Rattle.chord_tree_store.proofs.Dropped.{split_length}
use Rattle.chord_tree_store.proofs.slots.Slots.drop_copied.Goals as goal

pub overflow_sub-self : goal.overflow_sub-self
overflow_sub-self c =
    let copies = ap (λ (ps : List Pair). length ps) (ap (pairs_inside c.args.span.now) c.self.view_is ∙ c.requires) in
    omega (arith, copies, split_length c.args.span.now (pairs_in c.self.inside.shelf), c.self.invariant.1)

pub invariant_of-self : goal.invariant_of-self
invariant_of-self c =
    let copies = ap (λ (ps : List Pair). length ps) (ap (pairs_inside c.args.span.now) c.self.view_is ∙ c.requires) in
    let left = ap (λ (ps : List Pair). length ps) c.drop_copied.ensures.change in
    (c.drop_copied.ensures.placed, omega (arith, copies, left, split_length c.args.span.now (pairs_in c.self.inside.shelf), c.self.invariant.1))
