use Rattle.std.proofs.Common.{◌≡◌, ◌-◌, ◌^◌}
use Rattle.chord_app_ring.specs.Pages.{first_behind}
use Rattle.chord_app_ring.specs.Dumping.{Copy, Follows, IsWritten, counted_lines}
use Rattle.chord_app_ring.proofs.dumping.dump.Given as goal

-- the lines of the pages so far are written and counted, and what is said of them is
abbrev pub invariant-loop-page : goal.invariant-loop-page
invariant-loop-page g l =
    (copy : Copy) × Follows g.T.PageTeller.tells l.fn.teller l.after copy l.teller
    × IsWritten (g.W.Write.contents l.fn.writer) (g.W.Write.contents l.writer) (g.E.Write.contents l.fn.errors) (g.E.Write.contents l.errors) copy.lines copy.notes
    × (l.pairs ≡ counted_lines copy.lines) × (l.is_lost ≡ copy.lost)

-- how many identifiers are not read yet
abbrev pub decreases-loop-page : goal.decreases-loop-page
decreases-loop-page g l = 2 ^ 128 - (first_behind l.after).number
