use Rattle.std.proofs.Common.{◌≡◌, ◌++◌, drop, string_bytes}
use Rattle.std.specs.List.{flat_map}
use Rattle.chord_app_operator.specs.Lines.{node_row}
use Rattle.chord_app_operator.proofs.show.table.add_rows.Given as goal

abbrev pub invariant-loop-node : goal.invariant-loop-node
invariant-loop-node l =
    string_bytes l.text ++ flat_map node_row (drop l.node-index l.nodes) ≡ string_bytes l.fn.text ++ flat_map node_row l.nodes
