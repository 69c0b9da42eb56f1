use Rattle.std.proofs.Common.{◌≡◌, drop}
use Rattle.chord_ring.specs.Rows.{row_at}
use Rattle.chord_ring.proofs.member_row.links_in.Given as goal

-- the first row of the number is the first of the rest
abbrev pub invariant-loop-row : goal.invariant-loop-row
invariant-loop-row l = row_at l.number l.rows ≡ row_at l.number (drop l.row-index l.rows)
