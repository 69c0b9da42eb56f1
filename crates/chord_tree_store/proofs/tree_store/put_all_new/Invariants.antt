use Rattle.std.proofs.Common.{◌≡◌, take}
use Rattle.chord_map.specs.Map.{put_all}
use Rattle.chord_tree_store.proofs.tree_store.put_all_new.Given as goal

abbrev pub invariant-loop-pair : goal.invariant-loop-pair
invariant-loop-pair l = l.slots ≡ put_all (take l.pair-index l.pairs) l.initial.slots
