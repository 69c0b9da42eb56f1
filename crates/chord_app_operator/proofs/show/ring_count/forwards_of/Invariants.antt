use Rattle.std.proofs.Common.{◌≡◌, drop, fold}
use Rattle.chord_app_operator.specs.Metrics.{with_forwards, forwards_of}
use Rattle.chord_app_operator.proofs.show.ring_count.forwards_of.Given as goal

abbrev pub invariant-loop-node : goal.invariant-loop-node
invariant-loop-node l = fold with_forwards l.all (drop l.node-index l.nodes) ≡ forwards_of l.past l.nodes
