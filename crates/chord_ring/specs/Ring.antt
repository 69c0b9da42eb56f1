-- A ring of nodes: who is a member, who is live, who is a principal.
use Rattle.std.specs.Prelude.{◌≡◌, ℕ, ◌<◌, List, [], ◌∷◌, ◌++◌, length, Option, Some, None, Bool, is_some, IsTrue, IsSome, slice_index_or, slice_set, count_by}
use Rattle.std.specs.Option.{option_and_then}
use Rattle.std.specs.List.{find}
use Rattle.chord_ident.specs.Circle.{IsBetween}
use Rattle.chord_links.specs.declared.peer.Peer.{Peer}
use Rattle.chord_links.specs.NodeLinks.{NodeLinks}
use Rattle.chord_links.specs.Successors.{Skips, Rises}

-- the links of each member, by its number; None for a node that departed
abbrev pub Members : Type 0
Members = List (Option NodeLinks)

-- the links of the member of this number, if there is one
abbrev pub links_of : Members → ℕ → Option NodeLinks
links_of members node = slice_index_or members node None

-- the node of this number is a member
abbrev pub is_member : Members → ℕ → Bool
is_member members node = is_some (links_of members node)

-- the first of these peers that is live, that is a member
abbrev pub first_live : Members → List Peer → Option Peer
first_live members peers = find (λ peer. is_member members peer.number) peers

-- a principal is a member that no member's list skips
pub record IsPrincipal (members : Members) (node : ℕ) : Type 0 where
  pub links : NodeLinks
  pub is_its : links_of members node ≡ Some links
  pub unskipped : (other : ℕ) (theirs : NodeLinks) → links_of members other ≡ Some theirs → ¬ (Skips theirs.me.id.number theirs.entries links.me.id.number)

-- each member's list has a live entry, and there is a principal
pub record IsSafe (members : Members) : Type 0 where
  pub live : (node : ℕ) (links : NodeLinks) → links_of members node ≡ Some links → IsSome (first_live members links.entries)
  pub principal : (node : ℕ) × IsPrincipal members node

-- the node is a member, and once it has departed the others are safe
abbrev pub CanDepart : Members → ℕ → Type 0
CanDepart members node = IsTrue (is_member members node) × IsSafe (slice_set members node None)

-- each principal that is still a member is still a principal
abbrev pub KeepsPrincipals : Members → Members → Type 0
KeepsPrincipals old new = (node : ℕ) → IsPrincipal old node → IsTrue (is_member new node) → IsPrincipal new node

-- the first live entry of a member's list
abbrev pub next_of : Members → ℕ → Option Peer
next_of members node = option_and_then (λ links. first_live members links.entries) (links_of members node)

-- from this node, following first live entries visits these peers in order
abbrev pub Follows : Members → ℕ → List Peer → Type 0
Follows members node [] = Unit {0}
Follows members node (peer ∷ peers) = (next_of members node ≡ Some peer) × Follows members peer.number peers

-- the number of members
abbrev pub member_count : Members → ℕ
member_count members = count_by is_some members

-- Following first live entries leads from one member to the other, each hop farther round, in at
-- most as many hops as there are members
pub record LeadsTo (members : Members) (from to : NodeLinks) : Type 0 where
  pub before : List Peer
  pub follows : Follows members from.me.number (before ++ to.me ∷ [])
  pub onward : Rises from.me.id.number 0 (before ++ to.me ∷ [])
  pub few : length before < member_count members

-- from each member, following first live entries leads to each principal, and no hop passes one
pub record IsOneRing (members : Members) : Type 0 where
  pub meets : (node : ℕ) (from : NodeLinks) → links_of members node ≡ Some from
      → (target : ℕ) (principal : IsPrincipal members target) → LeadsTo members from principal.links
  pub passes_none : (node : ℕ) (from : NodeLinks) (peer : Peer) → links_of members node ≡ Some from → next_of members node ≡ Some peer
      → (target : ℕ) (principal : IsPrincipal members target) → ¬ (IsBetween from.me.id.number principal.links.me.id.number peer.id.number)
