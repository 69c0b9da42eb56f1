use Rattle.std.proofs.Common.{◌≡◌, ◌≤◌, ℕ}
use Rattle.std.specs.Prelude.{Any}
use Rattle.chord_handover.specs.Handover.{Part, gathered_parts}
use Rattle.chord_handover.proofs.gathering.are_all_there.Given as goal

abbrev pub invariant-loop-i : goal.invariant-loop-i
invariant-loop-i l = (place : ℕ) → 1 ≤ place → place ≤ l.i → Any (λ (part : Part). part.place ≡ place) (gathered_parts l.part l.buffered)
