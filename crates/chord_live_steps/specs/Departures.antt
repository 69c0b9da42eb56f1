-- Departures of nodes, judged while the seats of all nodes are taken in. Source: our own.
use Rattle.std.specs.Prelude.{◌≡◌, ℕ, List, [], ◌∷◌, ◌++◌, length, Option, None, Some, IsTrue, is_some}
use Rattle.chord_links.specs.NodeLinks.{NodeLinks}
use Rattle.chord_live_steps.specs.declared.departure.Departure.{Departure}
use Rattle.chord_live_steps.specs.declared.departure.Departure.TheVariants.{Crash, Retire}
use Rattle.chord_ring.specs.declared.member_row.MemberRow.{MemberRow}
use Rattle.chord_ring.specs.Ring.{CanDepart}
use Rattle.chord_ring.specs.Rows.{row_at, members_among}
use Rattle.chord_table.specs.Scenes.{place_of}
use Rattle.chord_table.specs.Seen.{Actor, OfNode, OfCaller, Sight}
use Rattle.chord_table.specs.Views.{MayRetire, among, callers_among, crash_sight, nodes_among, retire_sight}

-- the node that departs
abbrev pub number_of : Departure → ℕ
number_of (Crash number) = number
number_of (Retire number) = number

-- what a seat shows once the node departed
abbrev pub departed : Departure → Sight → Sight
departed (Crash number) sight = crash_sight number sight
departed (Retire number) sight = retire_sight number sight

-- the row of a node of which the ring has this: none if the ring has nothing
abbrev pub row_of : ℕ → Option NodeLinks → List MemberRow
row_of number None = []
row_of number (Some links) = record { number = number; links = links } ∷ []

-- these rows, with that of the actor in front if it is a member
abbrev pub with_row : Actor → List MemberRow → List MemberRow
with_row (OfNode node crashed) rows = row_of node.number (place_of crashed node) ++ rows
with_row (OfCaller caller) rows = rows

-- the rows of the members among them
abbrev pub rows_among : List Sight → List MemberRow
rows_among sights = among with_row sights

-- if a node is to retire and is a member whose seat was taken in, it may
abbrev pub MayDepart : Departure → List Sight → Type 0
MayDepart departure taken =
    (number : ℕ) → departure ≡ Retire number → IsTrue (is_some (row_at number (rows_among taken))) → MayRetire taken number

-- the seats of all nodes that ever were were taken in, and the others are safe without the one that
-- departs
abbrev pub IsAllowed : Departure → ℕ → List Sight → Type 0
IsAllowed departure nodes taken =
    (length (nodes_among taken) ≡ nodes) × CanDepart (members_among nodes (rows_among taken)) (number_of departure)

-- the seats that were taken in are of nodes that are no members
pub record AreOut (taken : List Sight) : Type 0 where
  pub members : rows_among taken ≡ []
  pub callers : callers_among taken ≡ []
