use Rattle.std.proofs.Common.{◌≡◌, ◌≤◌, take}
use Rattle.std.specs.List.{count_by}
use Rattle.chord_app_operator.specs.Metrics.{is_in}
use Rattle.chord_app_operator.proofs.show.ring_count.count_in.Given as goal

abbrev pub invariant-loop-node : goal.invariant-loop-node
invariant-loop-node l = (l.count ≡ count_by (is_in l.phase) (take l.node-index l.nodes)) × (l.count ≤ l.node-index)
