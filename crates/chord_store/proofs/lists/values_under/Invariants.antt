use Rattle.std.proofs.Common.{◌≡◌, take, map}
use Rattle.chord_map.specs.declared.pair.Pair.{Pair}
use Rattle.chord_store.proofs.lists.values_under.Given as goal

abbrev pub invariant-loop-pair : goal.invariant-loop-pair
invariant-loop-pair l = l.values ≡ map (λ (p : Pair). p.value) (take l.pair-index l.pair-items)
