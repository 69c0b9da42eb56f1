-- What the seats that the registrar's took in show of the ring.
use Rattle.std.specs.Prelude.{◌≡◌, ℕ, ◌==◌, if◌then◌else◌, Option, None, List, [], ◌∷◌, length}
use Rattle.chord_links.specs.NodeLinks.{NodeLinks}
use Rattle.chord_ring.specs.Ring.{Members, links_of, IsSafe, IsOneRing}
use Rattle.chord_ring.specs.Steps.{IsReached}
use Rattle.chord_table.specs.Scenes.{place_of}
use Rattle.chord_table.specs.Seen.{Actor, OfNode, OfCaller, Sight}
use Rattle.chord_table.specs.Views.{Assembled}

-- what the ring has of the actor, if it is the node of this number; of one of the others, if not
abbrev pub place_at : ℕ → Actor → Option NodeLinks → Option NodeLinks
place_at number (OfNode node crashed) others =
    if node.number == number then place_of crashed node else others
place_at number (OfCaller caller) others = others

-- what the ring has of the node of this number, as these sights show it
abbrev pub place_among : ℕ → List Sight → Option NodeLinks
place_among number [] = None
place_among number (sight ∷ rest) = place_at number sight.actor (place_among number rest)

-- these are the links of all members, by number, as the seats that were taken in show them
pub record AreMembers (assembled : Assembled) (members : Members) : Type 0 where
  pub counted : length members ≡ length assembled.register.ids
  pub links : (number : ℕ) → links_of members number ≡ place_among number assembled.taken

-- these members are a ring that steps and departures lead to: each member's list has a live entry,
-- there is a principal, and the principals are on one ring
pub record StandsOnRing (members : Members) : Type 0 where
  pub ids : List ℕ
  pub reached : IsReached (record { ids = ids; members = members })
  pub safe : IsSafe members
  pub one_ring : IsOneRing members
