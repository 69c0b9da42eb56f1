use Rattle.chord_tree_store.proofs.Touched.{IsLeft}
use Rattle.chord_tree_store.proofs.shelf.drop_among.Given as goal

abbrev pub invariant-loop-place : goal.invariant-loop-place
invariant-loop-place l = IsLeft l.span l.initial.shards.items l.shards.items l.place
