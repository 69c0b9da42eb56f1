use Rattle.std.proofs.Common.{◌≡◌, take}
use Rattle.chord_map.specs.Map.{put_all}
use Rattle.chord_store.specs.Store.{HasFew}
use Rattle.chord_store.proofs.lists.put_all_within.Given as goal

abbrev pub invariant-loop-pair : goal.invariant-loop-pair
invariant-loop-pair l = record { put : l.list ≡ put_all (take l.pair-index l.pairs) l.initial.list; few : HasFew l.list }
