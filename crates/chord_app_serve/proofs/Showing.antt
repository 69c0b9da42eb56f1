-- Nodes that are shown.
use Rattle.std.proofs.Common.{ℕ, [], ◌∷◌, ◌++◌, List}
use Rattle.std.proofs.lemmas.List.Elements.{All-push}
use Rattle.chord_app_operator.specs.declared.request.store_kind.StoreKind.{StoreKind}
use Rattle.chord_app_operator.specs.declared.sight.node.StoredNode.{StoredNode}
use Rattle.chord_app_serve.specs.Shown.{AreShown, IsShownAs}

-- behind nodes that are shown comes the next one
pub shown_more : (stores : ℕ → StoreKind) (nodes : List StoredNode) (node : StoredNode) (number : ℕ) → AreShown stores nodes
    → IsShownAs number (stores number) node → AreShown stores (nodes ++ node ∷ [])
shown_more stores nodes node number before shown =
    All-push (λ (s : StoredNode). (n : ℕ) × IsShownAs n (stores n) s) nodes node before (number, shown)
