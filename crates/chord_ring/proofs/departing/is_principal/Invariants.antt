use Rattle.std.proofs.Common.{◌≡◌, ℕ, ◌<◌, None, Some}
use Rattle.std.specs.Prelude.{slice_set}
use Rattle.chord_links.specs.NodeLinks.{NodeLinks}
use Rattle.chord_links.specs.Successors.{Skips}
use Rattle.chord_ring.specs.Ring.{links_of}
use Rattle.chord_ring.proofs.departing.is_principal.Given as goal

-- no member so far skips it
abbrev pub invariant-loop-place : goal.invariant-loop-place
invariant-loop-place g l =
    (place : ℕ) → place < l.place → (theirs : NodeLinks)
    → links_of (slice_set (g.M.MemberReader.ring l.members).members l.gone None) (g.M.MemberReader.number_at l.members place) ≡ Some theirs
    → ¬ (Skips theirs.me.id.number theirs.entries l.id.number)
