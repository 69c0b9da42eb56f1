use Rattle.std.proofs.Common.{◌≡◌, ◌++◌, take}
use Rattle.chord_handover.proofs.gathering.push_copies.Given as goal

abbrev pub invariant-loop-pair : goal.invariant-loop-pair
invariant-loop-pair l = l.pairs.items ≡ l.initial.pairs.items ++ take l.pair-index l.more
