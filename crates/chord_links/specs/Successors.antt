-- A node's list of successors, and how one node's list is made from another's.
use Rattle.std.specs.Prelude.{ℕ, ◌<◌, List, [], ◌∷◌, take, nat_lt, if◌then◌else◌, ◌⊎◌}
use Rattle.chord_ident.specs.Circle.{walk, IsBetween}
use Rattle.chord_links.specs.declared.peer.Peer.{Peer}

-- a list of successors: the identifier of its owner, and its peers in order
pub record Successors : Type 0 where
  pub owner : ℕ
  pub entries : List Peer

-- seen from the owner, each peer is farther than the one before, and the first farther than `past`
abbrev pub Rises : ℕ → ℕ → List Peer → Type 0
Rises owner past [] = Unit {0}
Rises owner past (peer ∷ peers) = (past < walk owner peer.id.number) × Rises owner (walk owner peer.id.number) peers

-- the longest prefix of these peers in which each is farther than the one before, all beyond `past`
abbrev pub rising_front : ℕ → ℕ → List Peer → List Peer
rising_front owner past [] = []
rising_front owner past (peer ∷ peers) =
    if nat_lt past (walk owner peer.id.number) then peer ∷ rising_front owner (walk owner peer.id.number) peers else []

-- the owner's list made from its first entry: `head`, then the rising prefix of the list of `head`,
-- cut to r entries
abbrev pub behind_successor : ℕ → ℕ → Peer → List Peer → List Peer
behind_successor owner r head entries = take r (head ∷ rising_front owner (walk owner head.id.number) entries)

-- the owner's list made from its predecessor's in the same way, starting with its first entry
abbrev pub behind_predecessor : ℕ → ℕ → List Peer → List Peer
behind_predecessor owner r [] = []
behind_predecessor owner r (head ∷ rest) = behind_successor owner r head rest

-- x is strictly between two neighbours of `before` followed by `peers`
abbrev pub Skips : ℕ → List Peer → ℕ → Type 0
Skips before [] x = ⊥
Skips before (peer ∷ peers) x = IsBetween before x peer.id.number ⊎ Skips peer.id.number peers x
