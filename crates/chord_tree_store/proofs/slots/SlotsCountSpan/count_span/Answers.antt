use Rattle.std.proofs.Common.{List, length, ap, arith}
use Rattle.chord_map.specs.declared.pair.Pair.{Pair}
use Rattle.chord_tree_store.proofs.Dropped.{split_length}
use Rattle.chord_tree_store.proofs.slots.SlotsCountSpan.count_span.Goals as goal

pub returns-then-self-eq0 : goal.returns-then-self-eq0
returns-then-self-eq0 c =
    let all = ap (λ (ps : List Pair). length ps) c.self.view_is in
    omega (arith, all, split_length c.args.span.now c.args.self.now, c.self.invariant.1, c.if-self-eq0.true)
