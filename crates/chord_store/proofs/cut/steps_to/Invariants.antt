use Rattle.std.proofs.Common.{◌≤◌, ◌<◌, ◌-◌, length}
use Rattle.chord_store.specs.Cut.{pairs_within}
use Rattle.chord_store.proofs.cut.steps_to.Given as goal

abbrev pub decreases-loop-high : goal.decreases-loop-high
decreases-loop-high g l = l.high - l.low

abbrev pub invariant-loop-high : goal.invariant-loop-high
invariant-loop-high g l = record {
  apart : l.low < l.high;
  most : l.high ≤ l.most;
  few : length (pairs_within l.after.number l.low (g.C.CountSpan.pairs l.counted)) < l.n;
  enough : l.n ≤ length (pairs_within l.after.number l.high (g.C.CountSpan.pairs l.counted));
}
