-- The course of a lookup.
use Rattle.std.specs.Prelude.{◌≡◌, ℕ, zero, suc, ◌<◌, ◌⊎◌, Option, Some, None}
use Rattle.chord_ident.specs.Circle.{IsWithin}
use Rattle.chord_links.specs.declared.peer.Peer.{Peer}
use Rattle.chord_links.specs.NodeLinks.{NodeLinks, first_entry}
use Rattle.chord_route.specs.declared.hop.Hop.TheVariants.{Near}
use Rattle.chord_route.specs.declared.lookup.LookupFault.{LookupFault}
use Rattle.chord_route.specs.declared.lookup.LookupFault.TheVariants.{NoSuchNode, Unsettled}
use Rattle.chord_route.specs.Hops.{IsNextHop}

-- n forwards of a lookup lead from the first links to the second, each node's links as answered
abbrev pub Forwards : (ℕ → Option NodeLinks → Type 0) → ℕ → ℕ → NodeLinks → NodeLinks → Type 0
Forwards answers target zero from to = from ≡ to
Forwards answers target (suc n) from to =
    (between : NodeLinks) × Forwards answers target n from between × ((node : Peer) × IsNextHop between target (Near node) × answers node.number (Some to))

-- n forwards of the lookup lead from the node of this number to these links
pub record ComesTo (answers : ℕ → Option NodeLinks → Type 0) (from target n : ℕ) (here : NodeLinks) : Type 0 where
  pub start : NodeLinks
  pub known : answers from (Some start)
  pub course : Forwards answers target n start here

-- the lookup ends at these links after fewer than
-- `limit` forwards: the target is in (me, first entry]
pub record EndsAt (answers : ℕ → Option NodeLinks → Type 0) (from target limit : ℕ) (last : NodeLinks) : Type 0 where
  pub n : ℕ
  pub few : n < limit
  pub comes : ComesTo answers from target n last
  pub within : IsWithin last.me.id.number target (first_entry last).id.number

-- the lookup made `limit` forwards, or the node of its next hop has no links
pub record IsUnsettled (answers : ℕ → Option NodeLinks → Type 0) (from target limit : ℕ) : Type 0 where
  pub n : ℕ
  pub here : NodeLinks
  pub comes : ComesTo answers from target n here
  pub stops : (n ≡ limit) ⊎ ((node : Peer) × IsNextHop here target (Near node) × answers node.number None)

-- why a lookup gives no node
abbrev pub RefusesLookup : (ℕ → Option NodeLinks → Type 0) → ℕ → ℕ → ℕ → LookupFault → Type 0
RefusesLookup answers from target limit Unsettled = IsUnsettled answers from target limit
RefusesLookup answers from target limit NoSuchNode = answers from None
