use Rattle.std.proofs.Common.{◌≡◌}
use Rattle.chord_app_plan.specs.Plan.{even_nodes}
use Rattle.chord_app_plan.proofs.plan.even_nodes.Given as goal

abbrev pub invariant-loop-number : goal.invariant-loop-number
invariant-loop-number l = (l.nodes.items ≡ even_nodes l.count l.number) × (l.nodes.len ≡ l.number)
