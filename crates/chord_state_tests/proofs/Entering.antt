-- A caller may be admitted to a table without callers.
use Rattle.std.proofs.Common.{◌≡◌, ℕ, List, [], refl, sym, subst, arith, Contains}
use Rattle.chord_caller.specs.Answers.{new_caller}
use Rattle.chord_caller.specs.Caller.{Caller}
use Rattle.chord_table.specs.Views.{Assembled, MayOpen}

none_there : Contains {X = ℕ} [] 0 → ⊥
none_there (place, low, same) = absurd (omega (arith, low))

pub may_open_first : (callers : List ℕ) (core : Caller) → callers ≡ [] → core ≡ new_caller 0 1 → MayOpen callers core
may_open_first callers core none new =
    subst (λ (c : Caller). MayOpen callers c) (sym new) ((λ there. none_there (subst (λ (l : List ℕ). Contains l 0) none there)), (1, omega arith, omega arith, refl))

-- the callers that are registered
abbrev pub callers_in : Assembled → List ℕ
callers_in assembled = assembled.register.callers
