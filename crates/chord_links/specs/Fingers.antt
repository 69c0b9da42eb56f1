-- The fingers of a node, numbered from 1 to 128.
use Rattle.std.specs.Prelude.{◌≡◌, ℕ, ◌+◌, ◌-◌, ◌%◌, ◌^◌, ◌<◌, ◌≤◌, ◌⊎◌, Option, Some, None, slice_index_or, slice_set, replicate}
use Rattle.chord_ident.specs.Circle.{IsBetween}
use Rattle.chord_links.specs.declared.peer.Peer.{Peer}
use Rattle.chord_links.specs.declared.fingers.Fingers.{Fingers}

-- the identifier where finger i of a node starts
abbrev pub start_of : ℕ → ℕ → ℕ
start_of me i = (me + 2 ^ (i - 1)) % 2 ^ 128

-- fingers with no node known
unfoldable pub no_fingers : Peer → Fingers
no_fingers me = record { me = me; nodes = replicate 128 None }

-- the node of finger i, if one was found
abbrev pub finger_at : Fingers → ℕ → Option Peer
finger_at fingers i = slice_index_or fingers.nodes (i - 1) None

-- the fingers with this node as finger i
abbrev pub with_finger : Fingers → ℕ → Peer → Fingers
with_finger fingers i node = record fingers { nodes = slice_set fingers.nodes (i - 1) (Some node) }

-- finger i is this node, and lies between its owner and the target
pub record Precedes (fingers : Fingers) (target i : ℕ) (node : Peer) : Type 0 where
  pub found : finger_at fingers i ≡ Some node
  pub between : IsBetween fingers.me.id.number node.id.number target

-- no finger with a number above i lies between its owner and the target
abbrev pub NonePrecedesAbove : Fingers → ℕ → ℕ → Type 0
NonePrecedesAbove fingers target i = (j : ℕ) (node : Peer) → i < j → j ≤ 128 → ¬ Precedes fingers target j node

-- the finger of greatest number that lies between its owner and the target, else the owner
abbrev pub IsClosestPreceding : Fingers → ℕ → Peer → Type 0
IsClosestPreceding fingers target answer =
    ((i : ℕ) × (1 ≤ i) × (i ≤ 128) × Precedes fingers target i answer × NonePrecedesAbove fingers target i)
    ⊎ ((answer ≡ fingers.me) × NonePrecedesAbove fingers target 0)
