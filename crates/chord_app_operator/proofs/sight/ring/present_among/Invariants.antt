use Rattle.std.proofs.Common.{◌≡◌, ◌≤◌, take}
use Rattle.std.specs.List.{count_by}
use Rattle.chord_app_operator.specs.Rows.{is_present}
use Rattle.chord_app_operator.proofs.sight.ring.present_among.Given as goal

abbrev pub invariant-loop-node : goal.invariant-loop-node
invariant-loop-node l = (l.count ≡ count_by is_present (take l.node-index l.nodes)) × (l.count ≤ l.node-index)
