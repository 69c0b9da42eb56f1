-- How clockwise walks compare and add up.
use Rattle.std.proofs.Common.{◌≡◌, ℕ, ◌+◌, ◌^◌, ◌<◌, ◌≤◌, ◌⊎◌, inl, inr, arith, ap, subst}
use Rattle.std.proofs.lemmas.Bool.{cases_lt}
use Rattle.std.proofs.lemmas.Bool.Decides.{nat_tests}
use Rattle.chord_ident.specs.Circle.{distance, walk, IsBetween}
use Rattle.chord_ident.proofs.Walks.{Goes, walk-goes}

-- the number of identifiers
abbrev pub circle : ℕ
circle = 2 ^ 128

ranges : (m a x w : ℕ) → a < m → x < m → Goes m a x w → (0 < w) × (w ≤ m)
ranges m a x w a_in x_in goes = grind arith

rounds : (m a w : ℕ) → Goes m a a w → w ≡ m
rounds m a w goes = grind arith

adds : (m a b x ab bx ax : ℕ) → a < m → b < m → x < m → Goes m a b ab → Goes m b x bx → Goes m a x ax
    → (ax ≡ ab + bx) ⊎ (ax + m ≡ ab + bx)
adds m a b x ab bx ax a_in b_in x_in gab gbx gax = grind arith

nearer_adds : (m a b x ab bx ax : ℕ) → a < m → b < m → x < m → Goes m a b ab → Goes m b x bx → Goes m a x ax → ab < ax → ax ≡ ab + bx
nearer_adds m a b x ab bx ax a_in b_in x_in gab gbx gax nearer = grind arith

meets_same : (m a x y w : ℕ) → a < m → x < m → y < m → Goes m a x w → Goes m a y w → x ≡ y
meets_same m a x y w a_in x_in y_in gx gy = grind arith

-- a walk has length 1 to the whole circle
pub walk_range : (a x : ℕ) → a < circle → x < circle → (0 < walk a x) × (walk a x ≤ circle)
walk_range a x a_in x_in = ranges circle a x (walk a x) a_in x_in (walk-goes a x a_in x_in)

-- no walk is empty
pub walk_positive : (a x : ℕ) → 0 < walk a x
unfolding walk distance
walk_positive a x = grind (arith, nat_tests)

-- a walk back to its start goes all the way round
pub walk_round : (a : ℕ) → a < circle → walk a a ≡ circle
walk_round a a_in = rounds circle a (walk a a) (walk-goes a a a_in a_in)

-- a walk by way of b is the sum of the two walks, or that sum less the whole circle
pub walk_over : (a b x : ℕ) → a < circle → b < circle → x < circle
    → (walk a x ≡ walk a b + walk b x) ⊎ (walk a x + circle ≡ walk a b + walk b x)
walk_over a b x a_in b_in x_in =
    adds circle a b x (walk a b) (walk b x) (walk a x) a_in b_in x_in (walk-goes a b a_in b_in) (walk-goes b x b_in x_in) (walk-goes a x a_in x_in)

-- by way of a point nearer than x, the walks add up
pub walk_nearer : (a b x : ℕ) → a < circle → b < circle → x < circle → walk a b < walk a x → walk a x ≡ walk a b + walk b x
walk_nearer a b x a_in b_in x_in nearer =
    nearer_adds circle a b x (walk a b) (walk b x) (walk a x) a_in b_in x_in (walk-goes a b a_in b_in) (walk-goes b x b_in x_in) (walk-goes a x a_in x_in) nearer

-- two points equally far are equal
pub same_from_walk : (a x y : ℕ) → a < circle → x < circle → y < circle → walk a x ≡ walk a y → x ≡ y
same_from_walk a x y a_in x_in y_in same =
    let P : ℕ → Type 0 = λ w. Goes circle a x w in
    meets_same circle a x y (walk a y) a_in x_in y_in (subst P same (walk-goes a x a_in x_in)) (walk-goes a y a_in y_in)

-- a point between is nearer than the end
pub between_nearer : (a x b : ℕ) → a < circle → x < circle → b < circle → IsBetween a x b → walk a x < walk a b
between_nearer a x b a_in x_in b_in between =
    elim (cases_lt (walk a x) (walk a b)) [
      | inl nearer ↦ nearer
      | inr farther ↦ absurd (between.1 (same_from_walk a x b a_in x_in b_in (omega (arith, between.0))))
    ]

-- a point nearer than the end is between
pub nearer_between : (a x b : ℕ) → walk a x < walk a b → IsBetween a x b
nearer_between a x b nearer = (omega arith, λ same. let as_far : walk a x ≡ walk a b = ap (walk a) same in absurd (omega arith))
