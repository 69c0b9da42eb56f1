-- The next hop of a lookup.
use Rattle.std.specs.Prelude.{◌≡◌, ◌≢◌, ℕ, ◌<◌, ◌⊎◌, List, Contains}
use Rattle.chord_ident.specs.Circle.{distance, digit_count, IsWithin}
use Rattle.chord_links.specs.declared.peer.Peer.{Peer}
use Rattle.chord_links.specs.NodeLinks.{NodeLinks, first_entry}
use Rattle.chord_links.specs.Fingers.{IsClosestPreceding}
use Rattle.chord_route.specs.IdealRing.{IsSuccessor, IsPredecessor}
use Rattle.chord_route.specs.declared.hop.Hop.{Hop}
use Rattle.chord_route.specs.declared.hop.Hop.TheVariants.{Last, Near}

-- the closest preceding finger, or the first entry if that is the node itself
abbrev pub IsNearHop : NodeLinks → ℕ → Peer → Type 0
IsNearHop links target node =
    (closest : Peer) × IsClosestPreceding links.fingers target closest
    × (((closest ≢ links.me) × (node ≡ closest)) ⊎ ((closest ≡ links.me) × (node ≡ first_entry links)))

-- Last, to the first entry, if the target is in (me, first]; else Near
abbrev pub IsNextHop : NodeLinks → ℕ → Hop → Type 0
IsNextHop links target (Last node) = IsWithin links.me.id.number target (first_entry links).id.number × (node ≡ first_entry links)
IsNextHop links target (Near node) = (¬ IsWithin links.me.id.number target (first_entry links).id.number) × IsNearHop links target node

-- The last hop goes to the target's successor, from its predecessor. Any other goes to a member
-- whose distance to the target's predecessor has fewer binary digits.
abbrev pub BringsNearer : List Peer → NodeLinks → ℕ → Hop → Type 0
BringsNearer ring links target (Last node) = IsSuccessor ring target node × IsPredecessor ring target links.me
BringsNearer ring links target (Near node) =
    Contains ring node × ((last : Peer) → IsPredecessor ring target last →
    digit_count (distance node.id.number last.id.number) < digit_count (distance links.me.id.number last.id.number))

-- BringsNearer if fingers may be missing or stale: a hop that is not the last goes to a member
-- nearer to the target's predecessor.
abbrev pub ComesCloser : List Peer → NodeLinks → ℕ → Hop → Type 0
ComesCloser ring links target (Last node) = IsSuccessor ring target node × IsPredecessor ring target links.me
ComesCloser ring links target (Near node) =
    Contains ring node × ((last : Peer) → IsPredecessor ring target last →
    distance node.id.number last.id.number < distance links.me.id.number last.id.number)
