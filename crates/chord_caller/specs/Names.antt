-- A set of calls, each by its caller and number.
use Rattle.std.specs.Prelude.{ℕ, Bool}
use Rattle.std.specs.declared.cmp.Ordering.{Ordering}
use Rattle.std.specs.Ordering.{nat_cmp, ordering_then}
use Rattle.std.specs.BTreeSet.{BTreeSet, contains}

-- the order of calls: by caller, then by number
abbrev pub name_cmp : (ℕ × ℕ) → (ℕ × ℕ) → Ordering
name_cmp a b = ordering_then (nat_cmp a.0 b.0) (nat_cmp a.1 b.1)

-- whether the set has the call
abbrev pub has_name : ℕ → ℕ → BTreeSet (ℕ × ℕ) → Bool
has_name caller number names = contains name_cmp names (caller, number)
