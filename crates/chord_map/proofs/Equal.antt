-- Whether two numbers are equal.
use Rattle.std.proofs.Common.{◌≡◌, ◌≢◌, ℕ, true, false, eqb, ◌⊎◌, inl, inr, ⊎_elim, sym, ◌∙◌}
use Rattle.std.proofs.lemmas.Bool.{true≢false}
use Rattle.std.proofs.lemmas.Bool.Decides.{eqb_tells}

-- two numbers are equal or not, to split on
pub same_or_not : (a b : ℕ) → (a ≡ b) ⊎ (a ≢ b)
same_or_not a b = ⊎_elim (λ yes. inl yes.1) (λ no. inr no.1) (eqb_tells a b)

pub eqb_same : (a b : ℕ) → a ≡ b → eqb a b ≡ true
eqb_same a b h = ⊎_elim (λ yes. yes.0) (λ no. absurd (no.1 h)) (eqb_tells a b)

pub eqb_is : (a b : ℕ) → eqb a b ≡ true → a ≡ b
eqb_is a b h = ⊎_elim (λ yes. yes.1) (λ no. absurd (true≢false (sym h ∙ no.0))) (eqb_tells a b)

pub eqb_other : (a b : ℕ) → a ≢ b → eqb a b ≡ false
eqb_other a b h = ⊎_elim (λ yes. absurd (h yes.1)) (λ no. no.0) (eqb_tells a b)
