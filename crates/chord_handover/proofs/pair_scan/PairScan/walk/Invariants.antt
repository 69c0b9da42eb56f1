use Rattle.std.proofs.Common.{List, ◌++◌, take}
use Rattle.chord_map.specs.declared.pair.Pair.{Pair}
use Rattle.chord_handover.specs.Passed.{HasPassed}
use Rattle.chord_handover.proofs.pair_scan.PairScan.walk.Given as goal

abbrev pub invariant-loop-pair : goal.invariant-loop-pair
invariant-loop-pair l = (passed : List Pair) → HasPassed l.segment.segment passed l.self → HasPassed l.segment.segment (passed ++ take l.pair-index l.pairs) l.run
