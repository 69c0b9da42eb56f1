use Rattle.std.proofs.Common.{List, length, refl, ap, arith}
use Rattle.chord_ident.specs.Circle.{in_span}
use Rattle.chord_map.specs.declared.pair.Pair.{Pair}
use Rattle.chord_tree_store.specs.Slots.{pairs_in}
use Rattle.chord_tree_store.proofs.Dropped.{split_length}
use Rattle.chord_tree_store.proofs.Emptied.{dropped_placed, dropped_pairs}
use Rattle.chord_tree_store.proofs.slots.drop_span.Goals as goal

pub returns : goal.returns
returns c =
    let change = dropped_pairs c.args.shelf.now c.drop_span.new.self c.requires.placed (in_span c.args.span.now) c.drop_span.ensures c.args.span.now (λ q there. refl) in
    record {
      placed = dropped_placed c.args.shelf.now c.drop_span.new.self c.requires.placed (in_span c.args.span.now) c.drop_span.ensures;
      count = omega (arith, ap (λ (ps : List Pair). length ps) change, split_length c.args.span.now (pairs_in c.args.shelf.now), c.count_span-count.ensures);
      change = change;
    }
