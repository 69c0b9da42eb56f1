-- The members of a ring as rows, in any order.
use Rattle.std.specs.Prelude.{ℕ, zero, suc, ◌==◌, if◌then◌else◌, Option, None, Some, List, [], ◌∷◌, ◌++◌, map, slice_index_or}
use Rattle.chord_links.specs.NodeLinks.{NodeLinks}
use Rattle.chord_ring.specs.declared.member_row.MemberRow.{MemberRow}
use Rattle.chord_ring.specs.Ring.{Members}

-- the links in the first row of this number
abbrev pub row_at : ℕ → List MemberRow → Option NodeLinks
row_at number [] = None
row_at number (row ∷ rows) = if row.number == number then Some row.links else row_at number rows

-- the number of the row at this place; 0 past the last
abbrev pub number_in : List MemberRow → ℕ → ℕ
number_in rows place = slice_index_or (map (λ (row : MemberRow). row.number) rows) place 0

-- the members that have a row, by number, of as many nodes as ever joined
unfoldable pub members_among : ℕ → List MemberRow → Members
members_among zero rows = []
members_among (suc count) rows = members_among count rows ++ row_at count rows ∷ []
