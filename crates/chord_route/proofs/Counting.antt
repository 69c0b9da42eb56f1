-- The number of nodes nearer than a distance.
use Rattle.std.proofs.Common.{◌≡◌, ℕ, zero, suc, ◌+◌, ◌<◌, ◌≤◌, ltb, cond, Option, Some, None, arith, inl, inr, ap, ◌∙◌}
use Rattle.std.proofs.lemmas.Bool.{cases_lt}
use Rattle.std.proofs.lemmas.Bool.Decides.{nat_tests}
use Rattle.chord_ident.specs.Circle.{distance}
use Rattle.chord_links.specs.NodeLinks.{NodeLinks}

-- 1 if the node of these links is less than d from p, else 0
abbrev pub nearer_one : ℕ → ℕ → Option NodeLinks → ℕ
nearer_one p d None = 0
nearer_one p d (Some links) = cond (ltb (distance links.me.id.number p) d) 1 0

-- the number of nodes numbered below n that are less than d from p
pub nearer_count : (ℕ → Option NodeLinks) → ℕ → ℕ → ℕ → ℕ
nearer_count table p d zero = 0
nearer_count table p d (suc n) = nearer_one p d (table n) + nearer_count table p d n

one_le : (p d : ℕ) (links : Option NodeLinks) → nearer_one p d links ≤ 1
one_le p d None = omega arith
one_le p d (Some links) = grind (arith, nat_tests)

one_more : (p e d : ℕ) (links : Option NodeLinks) → e ≤ d → nearer_one p e links ≤ nearer_one p d links
one_more p e d None h = omega arith
one_more p e d (Some links) h = grind (arith, nat_tests)

one_self : (p d : ℕ) (links : NodeLinks) → distance links.me.id.number p ≡ d → nearer_one p d (Some links) ≡ 0
one_self p d links h = grind (arith, nat_tests)

one_other : (p d : ℕ) (links : NodeLinks) → distance links.me.id.number p < d → nearer_one p d (Some links) ≡ 1
one_other p d links h = grind (arith, nat_tests)

pub count_le : (table : ℕ → Option NodeLinks) (p d n : ℕ) → nearer_count table p d n ≤ n
unfolding nearer_count
count_le table p d zero = omega arith
count_le table p d (suc n) = omega (arith, count_le table p d n, one_le p d (table n))

count_more : (table : ℕ → Option NodeLinks) (p e d n : ℕ) → e ≤ d → nearer_count table p e n ≤ nearer_count table p d n
unfolding nearer_count
count_more table p e d zero h = omega arith
count_more table p e d (suc n) h = omega (arith, count_more table p e d n h, one_more p e d (table n) h)

-- a node does not count itself
pub count_room : (table : ℕ → Option NodeLinks) (p d n k : ℕ) (links : NodeLinks) → k < n → table k ≡ Some links → distance links.me.id.number p ≡ d → nearer_count table p d n < n
unfolding nearer_count
count_room table p d zero k links h e same = absurd (omega arith)
count_room table p d (suc n) k links h e same = elim (cases_lt k n) [
  | inl lt ↦ omega (arith, count_room table p d n k links lt e same, one_le p d (table n))
  | inr ge ↦
      let at : n ≡ k = omega arith in
      let none : nearer_one p d (table n) ≡ 0 = ap (λ j. nearer_one p d (table j)) at ∙ ap (nearer_one p d) e ∙ one_self p d links same in
      omega (arith, count_le table p d n)
]

-- a hop to a nearer node leaves fewer that are nearer still
pub count_falls : (table : ℕ → Option NodeLinks) (p e d n k : ℕ) (links : NodeLinks) → k < n → table k ≡ Some links → distance links.me.id.number p ≡ e → e < d → nearer_count table p e n < nearer_count table p d n
unfolding nearer_count
count_falls table p e d zero k links h at same lt = absurd (omega arith)
count_falls table p e d (suc n) k links h at same lt = elim (cases_lt k n) [
  | inl below ↦ omega (arith, count_falls table p e d n k links below at same lt, one_more p e d (table n) (omega arith))
  | inr ge ↦
      let here : n ≡ k = omega arith in
      let none : nearer_one p e (table n) ≡ 0 = ap (λ j. nearer_one p e (table j)) here ∙ ap (nearer_one p e) at ∙ one_self p e links same in
      let one : nearer_one p d (table n) ≡ 1 = ap (λ j. nearer_one p d (table j)) here ∙ ap (nearer_one p d) at ∙ one_other p d links (omega arith) in
      omega (arith, count_more table p e d n (omega arith))
]
