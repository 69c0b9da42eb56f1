-- Who holds an identifier.
use Rattle.std.specs.Prelude.{◌≡◌, ℕ, Bool, ◌&&◌, nat_lt, Option, None, Some, List, [], ◌∷◌, ◌++◌}
use Rattle.chord_handover.specs.Handover.{Item}
use Rattle.chord_ident.specs.Circle.{in_span}
use Rattle.chord_model.specs.declared.holder.Holder.{Holder}
use Rattle.chord_model.specs.declared.holder.Holder.TheVariants as holder
use Rattle.chord_model.specs.Node.{Node}
use Rattle.chord_model.specs.World.{at_node, holders, last_taken, holders_under_way}
use Rattle.chord_world.specs.State.{WorldState}

-- whether the item hands x over and its receiver has not taken it yet
abbrev pub is_open : ℕ → (ℕ → ℕ → ℕ) → Node → Item → Bool
is_open x taken node item = in_span item.segment.span x && nat_lt (taken item.to node.number) item.number

-- the node's handover of this item, as a holder
abbrev pub way_of : Node → Item → Holder
way_of node item = holder.UnderWay node.number item.to item.number

-- the node if it holds x, and its open handovers of x
abbrev pub holders_at : ℕ → List Node → Node → List Holder
holders_at x nodes node = at_node x node ++ holders_under_way x (last_taken nodes) node

-- the one holder of x, once there is a node
abbrev pub HolderIs : ℕ → WorldState → Option Holder → Type 0
HolderIs x state None = state.world.nodes ≡ []
HolderIs x state (Some holder) = holders x state.world.nodes ≡ holder ∷ []
