-- Views of seats, with one changed or one added.
use Rattle.std.proofs.Common.{◌≡◌, ◌≢◌, ◌⊎◌, ℕ, zero, suc, List, [], ◌∷◌, ◌++◌, length, set, refl, sym, ap, ◌∙◌, subst, inl, inr, ⊎_elim}
use mathlib.Core.Option.{some, some-ne-none, some-injective}
use lib.ListN.{get_elem?}
use Rattle.atomic_table.proofs.Lists.{at_set}
use Rattle.chord_table.specs.Scenes.{Scene}
use Rattle.chord_table.specs.Seen.{View}
use Rattle.chord_table.specs.Views.{IsTrueOf, HaveOneOwner, Shows}

module _ {A : Type 0} where
  -- an element of a list with one appended is an old one, or the appended one
  pub at_snoc : (l : List A) (a b : A) (j : ℕ) → get_elem? (l ++ a ∷ []) j ≡ some b → (get_elem? l j ≡ some b) ⊎ ((j ≡ length l) × (a ≡ b))
  at_snoc [] a b zero e = inr (refl, some-injective a b e)
  at_snoc [] a b (suc j) e = absurd (some-ne-none b (sym e))
  at_snoc (x ∷ xs) a b zero e = inl e
  at_snoc (x ∷ xs) a b (suc j) e = ⊎_elim (λ t. inl t) (λ t. inr (ap suc t.0, t.1)) (at_snoc xs a b j e)

-- each view with the same owner as the new view had the same owner as the old one
pub record IsHeir (v w : View) : Type 0 where
  pub left : (u : View) → HaveOneOwner w u → HaveOneOwner v u
  pub right : (u : View) → HaveOneOwner u w → HaveOneOwner u v

-- one view changed, in another scene
pub shows_changed : (old new : Scene) (views : List View) (id : ℕ) (v w : View) → Shows old views → get_elem? views id ≡ some v → IsHeir v w → IsTrueOf new w
    → ((seat : ℕ) (u : View) → seat ≢ id → get_elem? views seat ≡ some u → IsTrueOf new u)
    → Shows new (set views id w)
shows_changed old new views id v w shows at heir mine others = record {
  agrees = λ seat u e. ⊎_elim
      (λ (x : (seat ≡ id) × (w ≡ u)). subst (IsTrueOf new) x.1 mine)
      (λ (x : (seat ≢ id) × (get_elem? views seat ≡ some u)). others seat u x.0 x.1)
      (at_set views id seat w u e);
  apart = λ seat other u t e f one. ⊎_elim
      (λ (x : (seat ≡ id) × (w ≡ u)). ⊎_elim
      (λ (y : (other ≡ id) × (w ≡ t)). x.0 ∙ sym y.0)
      (λ (y : (other ≢ id) × (get_elem? views other ≡ some t)). x.0 ∙ shows.apart id other v t at y.1 (heir.left t (subst (λ (z : View). HaveOneOwner z t) (sym x.1) one)))
      (at_set views id other w t f))
      (λ (x : (seat ≢ id) × (get_elem? views seat ≡ some u)). ⊎_elim
      (λ (y : (other ≡ id) × (w ≡ t)). shows.apart seat id u v x.1 at (heir.right u (subst (λ (z : View). HaveOneOwner u z) (sym y.1) one)) ∙ sym y.0)
      (λ (y : (other ≢ id) × (get_elem? views other ≡ some t)). shows.apart seat other u t x.1 y.1 one)
      (at_set views id other w t f))
      (at_set views id seat w u e);
}

-- one more view, whose owner has no seat yet
pub shows_added : (w : Scene) (views : List View) (v : View) → Shows w views → IsTrueOf w v
    → ((seat : ℕ) (u : View) → get_elem? views seat ≡ some u → (HaveOneOwner u v → ⊥) × (HaveOneOwner v u → ⊥))
    → Shows w (views ++ v ∷ [])
shows_added w views v shows mine alone = record {
  agrees = λ seat u e. ⊎_elim (λ (x : get_elem? views seat ≡ some u). shows.agrees seat u x) (λ (x : (seat ≡ length views) × (v ≡ u)). subst (IsTrueOf w) x.1 mine) (at_snoc views v u seat e);
  apart = λ seat other u t e f one. ⊎_elim
      (λ (x : get_elem? views seat ≡ some u). ⊎_elim
      (λ (y : get_elem? views other ≡ some t). shows.apart seat other u t x y one)
      (λ (y : (other ≡ length views) × (v ≡ t)). absurd ((alone seat u x).0 (subst (λ (z : View). HaveOneOwner u z) (sym y.1) one)))
      (at_snoc views v t other f))
      (λ (x : (seat ≡ length views) × (v ≡ u)). ⊎_elim
      (λ (y : get_elem? views other ≡ some t). absurd ((alone other t y).1 (subst (λ (z : View). HaveOneOwner z t) (sym x.1) one)))
      (λ (y : (other ≡ length views) × (v ≡ t)). x.0 ∙ sym y.0)
      (at_snoc views v t other f))
      (at_snoc views v u seat e);
}

-- one view cut in two, in another scene
pub shows_parted : (old new : Scene) (views : List View) (id : ℕ) (v left right : View) → Shows old views → get_elem? views id ≡ some v → IsHeir v left → IsHeir v right
    → (HaveOneOwner left right → ⊥) → (HaveOneOwner right left → ⊥) → IsTrueOf new left → IsTrueOf new right
    → ((seat : ℕ) (u : View) → seat ≢ id → get_elem? views seat ≡ some u → IsTrueOf new u)
    → Shows new (set views id left ++ right ∷ [])
shows_parted old new views id v left right shows at first second apart other_apart mine yours others =
    shows_added new (set views id left) right (shows_changed old new views id v left shows at first mine others) yours (λ seat u e. alone seat u (at_set views id seat left u e))
  where
    alone : (seat : ℕ) (u : View) → ((seat ≡ id) × (left ≡ u)) ⊎ ((seat ≢ id) × (get_elem? views seat ≡ some u)) → (HaveOneOwner u right → ⊥) × (HaveOneOwner right u → ⊥)
    alone seat u (inl (here, is)) = subst (λ (z : View). (HaveOneOwner z right → ⊥) × (HaveOneOwner right z → ⊥)) is (apart, other_apart)
    alone seat u (inr (away, e)) = (
      (λ one. away (shows.apart seat id u v e at (second.right u one))),
      (λ one. away (sym (shows.apart id seat v u at e (second.left u one)))),
    )
