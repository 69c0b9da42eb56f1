-- Sorted sets of values.
use Rattle.std.specs.Prelude.{◌≡◌, ◌<◌, ◌≤◌, ℕ, Bool, true, false, not, ◌&&◌, ◌||◌, List, length, bytes_eq, Result, Ok, Err}
use Rattle.std.specs.List.{list_any}
use Rattle.chord_store.specs.declared.outcome.Inserted.{Inserted}
use Rattle.chord_store.specs.declared.outcome.Inserted.TheVariants.{Added, Present, SetFull}

-- whether the values contain this one
abbrev pub has_value : List ℕ → List (List ℕ) → Bool
has_value value values = list_any (bytes_eq value) values

-- the value was added, and nothing else changed
pub record Gains (value : List ℕ) (old new : List (List ℕ)) : Type 0 where
  pub each : (other : List ℕ) → has_value other new ≡ (bytes_eq other value || has_value other old)

-- the value was removed, and nothing else changed
pub record Loses (value : List ℕ) (old new : List (List ℕ)) : Type 0 where
  pub each : (other : List ℕ) → has_value other new ≡ (not (bytes_eq other value) && has_value other old)

-- What an insert into a set answers, and the set afterwards. Only an addition can lack memory.
abbrev pub SetInsertIs : {E : Type 0} → List ℕ → List (List ℕ) → Result Inserted E → List (List ℕ) → Type 0
SetInsertIs value old (Ok Present) new = (has_value value old ≡ true) × (new ≡ old)
SetInsertIs value old (Ok SetFull) new = (has_value value old ≡ false) × (1000 ≤ length old) × (new ≡ old)
SetInsertIs value old (Ok Added) new = (has_value value old ≡ false) × (length old < 1000) × Gains value old new
SetInsertIs value old (Err e) new = (has_value value old ≡ false) × (length old < 1000) × (new ≡ old)
