use Rattle.std.proofs.Common.{◌≡◌, ◌++◌, drop, string_bytes}
use Rattle.std.specs.List.{flat_map}
use Rattle.chord_app_operator.specs.Metrics.{node_line}
use Rattle.chord_app_operator.proofs.show.metrics.add_node_lines.Given as goal

abbrev pub invariant-loop-node : goal.invariant-loop-node
invariant-loop-node l =
    string_bytes l.text ++ flat_map (node_line l.name l.labels l.count) (drop l.node-index l.nodes) ≡ string_bytes l.fn.text ++ flat_map (node_line l.name l.labels l.count) l.nodes
