-- How long a walk is.
use Rattle.std.proofs.Common.{◌≡◌, ◌≢◌, ℕ, ◌^◌, ◌==◌, Bool, true, false, if◌then◌else◌, refl, arith}
use Rattle.chord_ident.specs.Circle.{distance, walk}

walk_if : (from to : ℕ) (b : Bool) → (distance from to == 0) ≡ b → walk from to ≡ (if b then 2 ^ 128 else distance from to)
unfolding walk
walk_if from to b e = rw e refl

-- the whole circle between equal points
pub walk_all : (from to : ℕ) → distance from to ≡ 0 → walk from to ≡ 2 ^ 128
walk_all from to e = walk_if from to true (grind (arith, e))

pub walk_some : (from to : ℕ) → distance from to ≢ 0 → walk from to ≡ distance from to
walk_some from to some = walk_if from to false (grind (arith, some))
