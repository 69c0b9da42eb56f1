use Rattle.std.proofs.Common.{◌≡◌, ℕ, ◌<◌, Some, []}
use Rattle.std.specs.Prelude.{slice_get}
use Rattle.chord_model.specs.Node.{Node}
use Rattle.chord_world.specs.Holding.{holders_at}
use Rattle.chord_world.proofs.holder.find_holder.Given as goal

abbrev pub invariant-loop-node : goal.invariant-loop-node
invariant-loop-node g l = (place : ℕ) (node : Node) → place < l.node-index → slice_get l.nodes place ≡ Some node → holders_at l.id.number l.nodes node ≡ []
