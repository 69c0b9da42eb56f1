use Rattle.std.proofs.Common.{◌≡◌, map, take}
use Rattle.chord_app_serve.specs.ReadPairs.{operator_look, placed_look}
use Rattle.chord_app_serve.proofs.serving.pairs.pairs_shown.Given as goal

-- the pairs so far are shown
abbrev pub invariant-loop-placed : goal.invariant-loop-placed
invariant-loop-placed l = map operator_look l.shown.items ≡ map placed_look (take l.placed-index l.pairs)
