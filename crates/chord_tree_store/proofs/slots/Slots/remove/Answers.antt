use Rattle.std.proofs.Common.{List, length, sym, ap, ◌∙◌, arith}
use Rattle.chord_map.specs.declared.pair.Pair.{Pair}
use Rattle.chord_map.proofs.MapLemmas.{pair_of}
use Rattle.chord_map.proofs.Placed.{length-remove_there, remove_absent}
use Rattle.chord_tree_store.specs.Slots.{pairs_in}
use Rattle.chord_tree_store.proofs.Gathered.{rising-in}
use Rattle.chord_tree_store.proofs.slots.Slots.remove.Goals as goal

pub invariant_of-self : goal.invariant_of-self
invariant_of-self c =
    let old = pairs_in c.self.inside.shelf in
    let one = length-remove_there (pair_of c.args.key.now c.args.value.now) old (rising-in c.self.inside.shelf) (sym c.lose.ensures.was_there ∙ c.if-lose.true) in
    (c.lose.ensures.placed, omega (arith, one, ap (λ (ps : List Pair). length ps) c.lose.ensures.change, c.self.invariant.1))

pub invariant_of-self-else-lose : goal.invariant_of-self-else-lose
invariant_of-self-else-lose c =
    let same = c.lose.ensures.change ∙ remove_absent (pair_of c.args.key.now c.args.value.now) (pairs_in c.self.inside.shelf) (sym c.lose.ensures.was_there ∙ c.if-lose.false) in
    (c.lose.ensures.placed, c.self.invariant.1 ∙ sym (ap (λ (ps : List Pair). length ps) same))
