-- Looking nodes and callers up by their numbers, before and after a put.
use Rattle.std.proofs.Common.{◌≡◌, ◌≢◌, ℕ, cond, eqb, ◌⊎◌, inl, inr, ⊎_elim, refl, sym, ◌∙◌, ap, subst, List, [], ◌∷◌, find, Option, Some}
use Rattle.std.proofs.lemmas.Bool.{eqb-true, eq-eqb, ne_eqb, cond-true, cond-false}
use Rattle.std.proofs.lemmas.Option.{none-some}
use Rattle.chord_map.proofs.Lists.{by_test, Has, found}
use Rattle.chord_caller.specs.Caller.{Caller}
use Rattle.chord_model.specs.Node.{Node}
use Rattle.chord_model.specs.World.{put_in_place, node_at, put_node, caller_at, put_caller}

module _ {A : Type 0} (number_of : A → ℕ) where
  abbrev one_at : ℕ → List A → Option A
  one_at number xs = find (λ (x : A). eqb (number_of x) number) xs

  number_found : (number : ℕ) (xs : List A) (x : A) → one_at number xs ≡ Some x → number_of x ≡ number
  number_found number xs x e = eqb-true (number_of x) number (found (λ (y : A). eqb (number_of y) number) xs x e).0

  has_found : (number : ℕ) (xs : List A) (x : A) → one_at number xs ≡ Some x → Has xs x
  has_found number xs x e = (found (λ (y : A). eqb (number_of y) number) xs x e).1

  -- the element that was put is found under its number
  found_put : (after : A) (xs : List A) (x : A) → one_at (number_of after) xs ≡ Some x → one_at (number_of after) (put_in_place number_of after xs) ≡ Some after
  found_put after [] x e = absurd (none-some x e)
  found_put after (first ∷ rest) x e =
      let test = eqb (number_of first) (number_of after) in
      by_test test
      (λ t. ap (one_at (number_of after)) (cond-true test (after ∷ rest) (first ∷ put_in_place number_of after rest) t)
      ∙ cond-true (eqb (number_of after) (number_of after)) (Some after) (one_at (number_of after) rest) (eq-eqb (number_of after) (number_of after) refl))
      (λ f. ap (one_at (number_of after)) (cond-false test (after ∷ rest) (first ∷ put_in_place number_of after rest) f)
      ∙ cond-false test (Some first) (one_at (number_of after) (put_in_place number_of after rest)) f
      ∙ found_put after rest x (sym (cond-false test (Some first) (one_at (number_of after) rest) f) ∙ e))

  -- a put changes nothing at other numbers
  found_apart : (after : A) (xs : List A) (number : ℕ) → number ≢ number_of after → one_at number (put_in_place number_of after xs) ≡ one_at number xs
  found_apart after [] number apart = refl
  found_apart after (first ∷ rest) number apart =
      let test = eqb (number_of first) (number_of after) in
      by_test test
      (λ t.
      let e : number_of first ≡ number_of after = eqb-true (number_of first) (number_of after) t in
      ap (one_at number) (cond-true test (after ∷ rest) (first ∷ put_in_place number_of after rest) t)
      ∙ cond-false (eqb (number_of after) number) (Some after) (one_at number rest) (ne_eqb (number_of after) number (λ d. apart (sym d)))
      ∙ sym (cond-false (eqb (number_of first) number) (Some first) (one_at number rest) (ne_eqb (number_of first) number (λ d. apart (sym d ∙ e)))))
      (λ f. ap (one_at number) (cond-false test (after ∷ rest) (first ∷ put_in_place number_of after rest) f)
      ∙ ap (λ o. cond (eqb (number_of first) number) (Some first) o) (found_apart after rest number apart))

  -- an element after a put was there before, or is the one that was put
  has_put : (after : A) (xs : List A) (x : A) → Has (put_in_place number_of after xs) x → Has xs x ⊎ (after ≡ x)
  has_put after [] x h = absurd h
  has_put after (first ∷ rest) x h =
      let test = eqb (number_of first) (number_of after) in
      by_test test
      (λ t. ⊎_elim (λ e. inr e) (λ more. inl (inr more))
      (subst (λ cs. Has cs x) (cond-true test (after ∷ rest) (first ∷ put_in_place number_of after rest) t) h))
      (λ f. ⊎_elim (λ e. inl (inl e)) (λ more. ⊎_elim (λ a. inl (inr a)) (λ e. inr e) (has_put after rest x more))
      (subst (λ cs. Has cs x) (cond-false test (after ∷ rest) (first ∷ put_in_place number_of after rest) f) h))

-- what a look-up finds, and what it finds after a put
pub record ByNumber {A : Type 0} (number_of : A → ℕ) (at : ℕ → List A → Option A) (put : A → List A → List A) : Type 0 where
  pub number : (number : ℕ) (xs : List A) (x : A) → at number xs ≡ Some x → number_of x ≡ number
  pub has : (number : ℕ) (xs : List A) (x : A) → at number xs ≡ Some x → Has xs x
  pub put_same : (after : A) (xs : List A) (x : A) → at (number_of after) xs ≡ Some x → at (number_of after) (put after xs) ≡ Some after
  pub put_apart : (after : A) (xs : List A) (number : ℕ) → number ≢ number_of after → at number (put after xs) ≡ at number xs
  pub has_put : (after : A) (xs : List A) (x : A) → Has (put after xs) x → Has xs x ⊎ (after ≡ x)

by_number : {A : Type 0} (number_of : A → ℕ) → ByNumber number_of (one_at number_of) (put_in_place number_of)
by_number number_of = record {
  number = number_found number_of;
  has = has_found number_of;
  put_same = found_put number_of;
  put_apart = found_apart number_of;
  has_put = has_put number_of;
}

pub nodes_by : ByNumber (λ (n : Node). n.number) node_at put_node
unfolding node_at put_node
nodes_by = by_number (λ (n : Node). n.number)

pub callers_by : ByNumber (λ (c : Caller). c.number) caller_at put_caller
unfolding caller_at put_caller
callers_by = by_number (λ (c : Caller). c.number)
