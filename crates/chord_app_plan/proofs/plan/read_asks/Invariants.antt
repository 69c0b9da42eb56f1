use Rattle.std.proofs.Common.{take}
use Rattle.std.specs.List.{All}
use Rattle.toml.specs.View.{items_view}
use Rattle.chord_app_plan.specs.Plan.{AreTablesOf, AskIs, IsAskOf}
use Rattle.chord_app_plan.proofs.plan.read_asks.Given as goal

abbrev pub invariant-loop-number : goal.invariant-loop-number
invariant-loop-number l = record {
  within : All (IsAskOf l.callers l.nodes) l.asks.items;
  each : AreTablesOf AskIs (items_view (take l.number l.tables)) l.asks.items;
}
