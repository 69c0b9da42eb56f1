-- The registrar's seat takes in an actor's seat.
use Rattle.std.proofs.Common.{◌≡◌, ◌≢◌, ℕ, List, [], ◌∷◌, ◌++◌, set, ◌⊎◌, sym, ◌∙◌, subst, inl, inr, ⊎_elim}
use Rattle.std.proofs.lemmas.List.Elements.{All-push}
use mathlib.Core.Option.{some}
use lib.ListN.{get_elem?}
use Rattle.atomic_table.specs.Table.{Me, Joins}
use Rattle.atomic_table.proofs.Lists.{at_set}
use Rattle.chord_table.proofs.Keeping.{joins_as, spent_has_none}
use Rattle.chord_table.proofs.Owning.{turned}
use Rattle.chord_table.specs.Actors.{AreOne}
use Rattle.chord_table.specs.Scenes.{Scene}
use Rattle.chord_table.specs.Seen.{Actor, Sight, View, Admitted, Shown, Together, Witnessed, Sent, Standing, Spent}
use Rattle.chord_table.specs.Views.{OneIs, AllDiffer, ShareOne, IsSeenIn, IsTrueOf, HaveOneOwner, Shows, IsKept, view_of, Assembled, view_of_assembled, with_seat, known_in}

-- ---- no actor twice

-- a sight in a list with one appended is an old one, or the appended one
one_of_push : (taken : List Sight) (sight : Sight) (actor : Actor) → OneIs (taken ++ sight ∷ []) actor → OneIs taken actor ⊎ AreOne sight.actor actor
one_of_push [] sight actor (inl one) = inr one
one_of_push [] sight actor (inr none) = absurd none
one_of_push (first ∷ rest) sight actor (inl one) = inl (inl one)
one_of_push (first ∷ rest) sight actor (inr one) = ⊎_elim (λ o. inl (inr o)) (λ o. inr o) (one_of_push rest sight actor one)

shared_of_push : (taken : List Sight) (sight : Sight) (sights : List Sight) → ShareOne (taken ++ sight ∷ []) sights → ShareOne taken sights ⊎ OneIs sights sight.actor
shared_of_push taken sight [] h = absurd h
shared_of_push taken sight (other ∷ rest) (inl h) = ⊎_elim (λ o. inl (inl o)) (λ o. inr (inl (turned sight.actor other.actor o))) (one_of_push taken sight other.actor h)
shared_of_push taken sight (other ∷ rest) (inr h) = ⊎_elim (λ o. inl (inr o)) (λ o. inr (inr o)) (shared_of_push taken sight rest h)

pub differ_push : (taken : List Sight) (sight : Sight) → AllDiffer taken → (OneIs taken sight.actor → ⊥) → AllDiffer (taken ++ sight ∷ [])
differ_push [] sight differ none = ((λ h. h), tt)
differ_push (first ∷ rest) sight differ none = (
  (λ one. ⊎_elim differ.0 (λ o. none (inl (turned sight.actor first.actor o))) (one_of_push rest sight first.actor one)),
  differ_push rest sight differ.1 (λ o. none (inr o)),
)

-- ---- one seat takes in another

pub spent_left : (u : View) → HaveOneOwner Spent u → ⊥
spent_left (Admitted _ _ _ _) h = h
spent_left (Shown _ _) h = h
spent_left (Together _) h = h
spent_left (Witnessed _) h = h
spent_left (Sent _) h = h
spent_left (Standing _) h = h
spent_left Spent h = h

-- each view with the same owner as the new view had the same owner as one of the two old ones
pub record IsHeirOfBoth (v w both : View) : Type 0 where
  pub left : (u : View) → HaveOneOwner both u → HaveOneOwner v u ⊎ HaveOneOwner w u
  pub right : (u : View) → HaveOneOwner u both → HaveOneOwner u v ⊎ HaveOneOwner u w

-- where a view is, after one view changed and another became `Spent`
data Stands (views : List View) (id other : ℕ) (both : View) (seat : ℕ) (u : View) : Type 0 where
  Is_spent : seat ≡ other → Spent ≡ u → Stands views id other both seat u
  Is_both : seat ≡ id → both ≡ u → Stands views id other both seat u
  Is_old : seat ≢ id → seat ≢ other → get_elem? views seat ≡ some u → Stands views id other both seat u

stands : (views : List View) (id other : ℕ) (both : View) (seat : ℕ) (u : View) → get_elem? (set (set views id both) other Spent) seat ≡ some u → Stands views id other both seat u
stands views id other both seat u e = ⊎_elim
    (λ (x : (seat ≡ other) × (Spent ≡ u)). Is_spent x.0 x.1)
    (λ (x : (seat ≢ other) × (get_elem? (set views id both) seat ≡ some u)). ⊎_elim
    (λ (y : (seat ≡ id) × (both ≡ u)). Is_both y.0 y.1)
    (λ (y : (seat ≢ id) × (get_elem? views seat ≡ some u)). Is_old y.0 x.0 y.1)
    (at_set views id seat both u x.1))
    (at_set (set views id both) other seat Spent u e)

pub shows_joined : (world : Scene) (views : List View) (id other : ℕ) (v w both : View) → Shows world views → get_elem? views id ≡ some v → get_elem? views other ≡ some w
    → IsHeirOfBoth v w both → IsTrueOf world both → Shows world (set (set views id both) other Spent)
shows_joined world views id other v w both shows at there heir true = record {
  agrees = λ seat u e. agrees seat u (stands views id other both seat u e);
  apart = λ seat next u t e f one. apart seat next u t (stands views id other both seat u e) (stands views id other both next t f) one;
}
  where
    agrees : (seat : ℕ) (u : View) → Stands views id other both seat u → IsTrueOf world u
    agrees seat u (Is_spent s is) = subst (IsTrueOf world) is tt
    agrees seat u (Is_both s is) = subst (IsTrueOf world) is true
    agrees seat u (Is_old n m e) = shows.agrees seat u e

    apart : (seat next : ℕ) (u t : View) → Stands views id other both seat u → Stands views id other both next t → HaveOneOwner u t → seat ≡ next
    apart seat next u t (Is_spent s is) _ one = absurd (spent_left t (subst (λ (z : View). HaveOneOwner z t) (sym is) one))
    apart seat next u t (Is_both s is) (Is_spent r has) one = absurd (spent_has_none u (subst (λ (z : View). HaveOneOwner u z) (sym has) one))
    apart seat next u t (Is_both s is) (Is_both r has) one = s ∙ sym r
    apart seat next u t (Is_both s is) (Is_old n m f) one = ⊎_elim
        (λ (o : HaveOneOwner v t). absurd (n (sym (shows.apart id next v t at f o))))
        (λ (o : HaveOneOwner w t). absurd (m (sym (shows.apart other next w t there f o))))
        (heir.left t (subst (λ (z : View). HaveOneOwner z t) (sym is) one))
    apart seat next u t (Is_old n m e) (Is_spent r has) one = absurd (spent_has_none u (subst (λ (z : View). HaveOneOwner u z) (sym has) one))
    apart seat next u t (Is_old n m e) (Is_both r has) one = ⊎_elim
        (λ (o : HaveOneOwner u v). absurd (n (shows.apart seat id u v e at o)))
        (λ (o : HaveOneOwner u w). absurd (m (shows.apart seat other u w e there o)))
        (heir.right u (subst (λ (z : View). HaveOneOwner u z) (sym has) one))
    apart seat next u t (Is_old n m e) (Is_old k l f) one = shows.apart seat next u t e f one

-- the registrar's seat takes in an actor's
pub take_as : (id other : ℕ) (me you : Me ℕ View) (a : Assembled) (s : Sight) → me ≡ (view_of_assembled a, []) → you ≡ (view_of s, [])
    → Joins IsKept id me.0 other you.0 (with_seat me.0 you.0) Spent
take_as id other me you a s is came = joins_as id other me you (view_of_assembled a) (view_of s) with_seat is came allowed
  where
    both : View
    both = Admitted a.register.nodes a.register.callers (known_in a.register) (a.taken ++ s ∷ [])

    heir : IsHeirOfBoth (view_of_assembled a) (view_of s) both
    heir = record { left = λ u. left u; right = λ u. right u }
      where
        left : (u : View) → HaveOneOwner both u → HaveOneOwner (view_of_assembled a) u ⊎ HaveOneOwner (view_of s) u
        left (Admitted _ _ _ _) h = inl h
        left (Shown actor _) h = one_of_push a.taken s actor h
        left (Together sights) h = shared_of_push a.taken s sights h
        left (Witnessed _) h = inl h
        left (Sent _) h = inl h
        left (Standing _) h = inl h
        left Spent h = inl h

        right : (u : View) → HaveOneOwner u both → HaveOneOwner u (view_of_assembled a) ⊎ HaveOneOwner u (view_of s)
        right (Admitted _ _ _ _) h = inl h
        right (Shown actor _) h = ⊎_elim (λ o. inl o) (λ o. inr (turned s.actor actor o)) (one_of_push a.taken s actor h)
        right (Together sights) h = shared_of_push a.taken s sights h
        right (Witnessed _) h = inl h
        right (Sent _) h = inl h
        right (Standing _) h = inl h
        right Spent h = inl h

    allowed : Joins IsKept id (view_of_assembled a) other (view_of s) both Spent
    allowed t (w, lived, agrees, shows) at apart there =
        let yours : get_elem? t.views other ≡ some (view_of s) = ⊎_elim
        (λ (x : (other ≡ id) × (both ≡ view_of s)). absurd (apart x.0))
        (λ (x : (other ≢ id) × (get_elem? t.views other ≡ some (view_of s))). x.1)
        (at_set t.views id other both (view_of s) there) in
        let (nodes, callers, named, differ, all) = shows.agrees id (view_of_assembled a) at in
        let new = differ_push a.taken s differ (λ (o : OneIs a.taken s.actor). apart (sym (shows.apart id other (view_of_assembled a) (view_of s) at yours o))) in (
          w,
          lived,
          agrees,
          shows_joined w t.views id other (view_of_assembled a) (view_of s) both shows at yours heir
              (nodes, callers, named, new, All-push (IsSeenIn w) a.taken s all (shows.agrees other (view_of s) yours)),
        )
