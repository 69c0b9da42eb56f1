use Rattle.std.proofs.Common.{◌≡◌, [], take}
use Rattle.chord_map.specs.Map.{put_all}
use Rattle.chord_tree_store.specs.Slot.{pairs_under}
use Rattle.chord_tree_store.proofs.slot.listed.Given as goal

abbrev pub invariant-loop-value : goal.invariant-loop-value
invariant-loop-value l = l.list ≡ put_all (pairs_under l.key (take l.value-index l.values)) []
