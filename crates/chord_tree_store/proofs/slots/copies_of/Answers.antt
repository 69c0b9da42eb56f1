use Rattle.chord_map.specs.Map.{pair_cmp}
use Rattle.chord_map.proofs.Ordered.{rising_from_rises}
use Rattle.chord_store.specs.Inside.{pairs_inside}
use Rattle.chord_store.proofs.Inside.{rises_inside}
use Rattle.chord_tree_store.specs.Slots.{pairs_in}
use Rattle.chord_tree_store.proofs.Gathered.{rises-in}
use Rattle.chord_tree_store.proofs.slots.copies_of.Goals as goal

pub returns-clause-copies : goal.returns-clause-copies
returns-clause-copies c =
    let inside = pairs_inside c.args.span.now (pairs_in c.args.shelf.now) in
    c.sort.ensures inside (rising_from_rises pair_cmp inside (rises_inside c.args.span.now (pairs_in c.args.shelf.now) (rises-in c.args.shelf.now))) c.in_ok-copies.ensures.copies
