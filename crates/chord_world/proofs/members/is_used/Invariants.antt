use Rattle.std.proofs.Common.{◌≡◌, ℕ, ◌<◌, map, get_or}
use Rattle.chord_world.specs.Members.{id_of_node}
use Rattle.chord_world.proofs.members.is_used.Given as goal

-- no identifier so far is this one
abbrev pub invariant-loop-node : goal.invariant-loop-node
invariant-loop-node g l = (k : ℕ) → k < l.node-index → get_or (map id_of_node l.nodes) k l.id.number ≡ l.id.number → ⊥
