use Rattle.std.proofs.Common.{sym, subst}
use Rattle.chord_tree_store.specs.Slots.{ArePlaced}
use Rattle.chord_tree_store.proofs.shelf.Shelf.drop_span.Goals as goal

pub drop_among-requires-clause-placed : goal.drop_among-requires-clause-placed
drop_among-requires-clause-placed c = subst ArePlaced (sym c.self.view_is) c.requires
