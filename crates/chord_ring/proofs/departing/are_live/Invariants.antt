use Rattle.std.proofs.Common.{◌≡◌, ℕ, ◌<◌, None, Some}
use Rattle.std.specs.Prelude.{slice_set, IsSome}
use Rattle.chord_links.specs.NodeLinks.{NodeLinks}
use Rattle.chord_ring.specs.Ring.{links_of, first_live}
use Rattle.chord_ring.proofs.departing.are_live.Given as goal

-- each member so far has a live entry
abbrev pub invariant-loop-place : goal.invariant-loop-place
invariant-loop-place g l =
    (place : ℕ) → place < l.place → (links : NodeLinks)
    → links_of (slice_set (g.M.MemberReader.ring l.members).members l.gone None) (g.M.MemberReader.number_at l.members place) ≡ Some links
    → IsSome (first_live (slice_set (g.M.MemberReader.ring l.members).members l.gone None) links.entries)
