use Rattle.std.proofs.Common.{◌≤◌, ◌<◌, ◌-◌}
use Rattle.chord_store.proofs.cut.enough_steps.Given as goal

abbrev pub decreases-loop-after : goal.decreases-loop-after
decreases-loop-after g l = l.most - l.steps

abbrev pub invariant-loop-after : goal.invariant-loop-after
invariant-loop-after g l = record {
  some : 0 < l.steps;
  most : l.steps ≤ l.most;
}
