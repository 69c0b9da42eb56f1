use Rattle.std.proofs.Common.{◌≡◌, take, vec_len}
use Rattle.toml.specs.View.{items_view}
use Rattle.chord_app_plan.specs.Plan.{AreTablesOf, NodeIs}
use Rattle.chord_app_plan.proofs.plan.read_nodes.Given as goal

abbrev pub invariant-loop-number : goal.invariant-loop-number
invariant-loop-number l = record {
  count : vec_len l.nodes ≡ l.number;
  each : AreTablesOf NodeIs (items_view (take l.number l.tables)) l.nodes.items;
}
