use Rattle.std.proofs.Common.{◌≡◌, ℕ, ◌<◌, map, get_or}
use Rattle.chord_ident.specs.declared.id.Id.{Id}
use Rattle.chord_ring.proofs.ring_core.is_used.Given as goal

-- no identifier so far is this one
abbrev pub invariant-loop-used : goal.invariant-loop-used
invariant-loop-used l = (k : ℕ) → k < l.used-index → get_or (map (λ (used : Id). used.number) l.ids) k l.id.number ≡ l.id.number → ⊥
