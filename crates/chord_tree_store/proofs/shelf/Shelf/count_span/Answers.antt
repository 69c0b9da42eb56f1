use Rattle.std.proofs.Common.{List, sym, subst}
use Rattle.chord_tree_store.specs.declared.shard.Shard.{Shard}
use Rattle.chord_tree_store.specs.Shelf.{slots_of}
use Rattle.chord_tree_store.specs.Slots.{ArePlaced}
use Rattle.chord_tree_store.proofs.shelf.Shelf.count_span.Goals as goal

pub count_among-requires-clause-placed : goal.count_among-requires-clause-placed
count_among-requires-clause-placed c = subst (λ (s : List Shard). ArePlaced (slots_of s)) (sym c.as_slice.ensures.value) (subst ArePlaced (sym c.self.view_is) c.requires.placed)
