-- The nodes of a world, by number.
use Rattle.std.proofs.Common.{◌≡◌, ◌≢◌, ℕ, cond, eqb, Option, Some, None, List, [], ◌∷◌, ◌++◌, ⊎_elim, refl, sym, ◌∙◌, ap}
use Rattle.chord_map.proofs.Finding.{find_passes, find_push_miss, find_push_hit}
use Rattle.chord_model.proofs.Numbered.{nodes_by}
use Rattle.chord_model.specs.Node.{Node}
use Rattle.chord_model.specs.World.{node_at, put_node}
use Rattle.chord_map.proofs.Equal.{same_or_not, eqb_same, eqb_other, eqb_is}

pub node_at_push_other : (number : ℕ) (nodes : List Node) (node : Node) → node.number ≢ number → node_at number (nodes ++ node ∷ []) ≡ node_at number nodes
unfolding node_at
node_at_push_other number nodes node apart = find_push_miss (λ (node : Node). eqb node.number number) nodes node (eqb_other node.number number apart)

pub node_at_push_same : (number : ℕ) (nodes : List Node) (node : Node) → node.number ≡ number → node_at number nodes ≡ None → node_at number (nodes ++ node ∷ []) ≡ Some node
unfolding node_at
node_at_push_same number nodes node same none = find_push_hit (λ (node : Node). eqb node.number number) nodes node (eqb_same node.number number same) none

-- A property of the new node beside the old, and of any node beside itself, holds at every number
pub at_put : (P : ℕ → Option Node → Option Node → Type 0) (after node : Node) (nodes : List Node) → node_at after.number nodes ≡ Some node
    → P after.number (Some node) (Some after) → ((number : ℕ) (other : Option Node) → P number other other)
    → (number : ℕ) → P number (node_at number nodes) (node_at number (put_node after nodes))
at_put P after node nodes at here elsewhere number =
    ⊎_elim
    (λ (same : number ≡ after.number). rw (same, at, nodes_by.put_same after nodes node at) here)
    (λ (apart : number ≢ after.number). rw (nodes_by.put_apart after nodes number apart) (elsewhere number (node_at number nodes)))
    (same_or_not number after.number)

-- no two nodes have the same number
abbrev pub DistinctNodes : List Node → Type 0
DistinctNodes [] = Unit {0}
DistinctNodes (node ∷ rest) = (node_at node.number rest ≡ None) × DistinctNodes rest

-- A property of a new node beside none, and of any node beside itself, holds at every number
pub at_push : (P : ℕ → Option Node → Option Node → Type 0) (new : Node) (nodes : List Node) → node_at new.number nodes ≡ None
    → P new.number None (Some new) → ((number : ℕ) (other : Option Node) → P number other other)
    → (number : ℕ) → P number (node_at number nodes) (node_at number (nodes ++ new ∷ []))
at_push P new nodes none here elsewhere number =
    ⊎_elim
    (λ (same : number ≡ new.number). rw (same, none, node_at_push_same new.number nodes new refl none) here)
    (λ (apart : number ≢ new.number). rw (node_at_push_other number nodes new (λ e. apart (sym e))) (elsewhere number (node_at number nodes)))
    (same_or_not number new.number)

pub DistinctNodes_push : (nodes : List Node) (new : Node) → node_at new.number nodes ≡ None → DistinctNodes nodes → DistinctNodes (nodes ++ new ∷ [])
unfolding node_at
DistinctNodes_push [] new none d = (refl, tt)
DistinctNodes_push (node ∷ rest) new none d =
    ⊎_elim
    (λ (same : node.number ≡ new.number). let e : Some node ≡ None = rw (eqb_same node.number new.number same) at none in cc)
    (λ (apart : node.number ≢ new.number).
    let none' : node_at new.number rest ≡ None = rw (eqb_other node.number new.number apart) at none in
    (node_at_push_other node.number rest new (λ e. apart (sym e)) ∙ d.0, DistinctNodes_push rest new none' d.1))
    (same_or_not node.number new.number)

pub node_at-put_none : (number : ℕ) (after : Node) (nodes : List Node) → node_at number nodes ≡ None → node_at number (put_node after nodes) ≡ None
unfolding node_at put_node
node_at-put_none number after [] none = refl
node_at-put_none number after (node ∷ rest) none =
    ⊎_elim
    (λ (here : node.number ≡ number). let e : Some node ≡ None = rw (eqb_same node.number number here) at none in cc)
    (λ (there : node.number ≢ number).
    let none' : node_at number rest ≡ None = rw (eqb_other node.number number there) at none in
    ⊎_elim
    (λ (same : node.number ≡ after.number).
    rw (eqb_same node.number after.number same) (rw (eqb_other after.number number (λ e. there (same ∙ e))) none'))
    (λ (apart : node.number ≢ after.number).
    rw (eqb_other node.number after.number apart) (rw (eqb_other node.number number there) (node_at-put_none number after rest none')))
    (same_or_not node.number after.number))
    (same_or_not node.number number)

pub DistinctNodes-put : (after : Node) (nodes : List Node) → DistinctNodes nodes → DistinctNodes (put_node after nodes)
unfolding put_node
DistinctNodes-put after [] d = tt
DistinctNodes-put after (node ∷ rest) d =
    ⊎_elim
    (λ (same : node.number ≡ after.number). rw (eqb_same node.number after.number same) (ap (λ n. node_at n rest) (sym same) ∙ d.0, d.1))
    (λ (apart : node.number ≢ after.number).
    rw (eqb_other node.number after.number apart) (node_at-put_none node.number after rest d.0, DistinctNodes-put after rest d.1))
    (same_or_not node.number after.number)

-- a put into no nodes leaves no nodes
pub put_node_some : (after : Node) (nodes : List Node) → put_node after nodes ≢ [] → nodes ≢ []
unfolding put_node
put_node_some after [] h = h
put_node_some after (node ∷ rest) h = λ e. cc
