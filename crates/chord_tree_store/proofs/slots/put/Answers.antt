use Rattle.std.proofs.Common.{sym, subst}
use Rattle.chord_map.proofs.MapLemmas.{pair_of}
use Rattle.chord_store.specs.Store.{AddIs}
use Rattle.chord_tree_store.specs.Slots.{ArePlaced, pairs_in}
use Rattle.chord_tree_store.proofs.Placing.{adds, adds_placed}
use Rattle.chord_tree_store.proofs.slots.put.Goals as goal

pub returns : goal.returns
returns c =
    let place = c.place-done in
    let placed = adds_placed c.args.shelf.now place.new.self c.requires.placed c.args.id place.ensures.others c.args.key.now c.args.value.now c.requires.id place.result place.ensures.here in
    record {
      placed = subst ArePlaced (sym c.split-halved.ensures) placed;
      answer = subst (λ m. AddIs (pair_of c.args.key.now c.args.value.now) (pairs_in c.args.shelf.now) place.result (pairs_in m)) (sym c.split-halved.ensures)
          (adds c.args.shelf.now place.new.self c.requires.placed c.args.id place.ensures.others c.args.key.now c.args.value.now c.requires.id place.result placed place.ensures.here);
    }
