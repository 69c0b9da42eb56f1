-- A principal gets a seat of its own that shows it, and the registrar's seat takes such a seat in.
use Rattle.std.proofs.Common.{◌≡◌, ◌≢◌, ℕ, [], ◌∷◌, ◌++◌, set, sym, subst, ⊎_elim}
use Rattle.std.proofs.lemmas.List.Elements.{All-push}
use mathlib.Core.Option.{some}
use lib.ListN.{get_elem?}
use Rattle.atomic_table.proofs.Lists.{at_set, set_again}
use Rattle.atomic_table.specs.Table.{Me, Splits, Joins}
use Rattle.chord_ring.specs.Ring.{Members, IsPrincipal}
use Rattle.chord_table.proofs.Keeping.{joins_as, spends}
use Rattle.chord_table.proofs.Owning.{registrar_heir}
use Rattle.chord_table.proofs.Rings.{member_within}
use Rattle.chord_table.proofs.Showing.{shows_changed, shows_added}
use Rattle.chord_table.proofs.WholeRing.{members_same}
use Rattle.chord_table.specs.Rings.{AreMembers}
use Rattle.chord_table.specs.Seen.{Known, View, Admitted, Shown, Together, Witnessed, Sent, Standing, Spent}
use Rattle.chord_table.specs.Views.{IsTrueOf, HaveOneOwner, Shows, IsKept, Stands, Assembled, known_in, view_of_assembled, HasAllNodes, with_principal}

pub standing_has_none : (number : ℕ) (u : View) → HaveOneOwner u (Standing number) → ⊥
standing_has_none number (Admitted _ _ _ _) h = h
standing_has_none number (Shown _ _) h = h
standing_has_none number (Together _) h = h
standing_has_none number (Witnessed _) h = h
standing_has_none number (Sent _) h = h
standing_has_none number (Standing _) h = h
standing_has_none number Spent h = h

-- the registrar's seat, which took in those of all nodes, gives a seat that shows a principal
pub stand_as : (id : ℕ) (me : Me ℕ View) (a : Assembled) (number : ℕ)
    → me ≡ (view_of_assembled a, []) → HasAllNodes a
    → (members : Members) × AreMembers a members × IsPrincipal members number
    → Splits IsKept id me.0 me.0 (Standing number)
stand_as id me a number is whole (members, are, principal) =
    subst (λ (m : Me ℕ View). Splits IsKept id m.0 m.0 (Standing number)) (sym is) allowed
  where
    view : View
    view = view_of_assembled a

    allowed : Splits IsKept id view view (Standing number)
    allowed t (scene, lived, agrees, shows) at =
        let (nodes, callers, named, differ, all) = shows.agrees id view at in
        let same : members ≡ scene.ring.members =
        members_same scene a agrees nodes named differ all whole members are in
        let stands : IsPrincipal scene.ring.members number =
        subst (λ (ms : Members). IsPrincipal ms number) same principal in (
          scene,
          lived,
          agrees,
          shows_added scene (set t.views id view) (Standing number) (subst (Shows scene) (sym (set_again t.views id view at)) shows)
              (member_within scene.ring.members number stands.links stands.is_its, (λ holds member. stands))
              (λ seat u e. (standing_has_none number u, λ h. h)),
        )

-- the same, where the proof picked the number
pub stand_of : (id : ℕ) (me : Me ℕ View) (a : Assembled) (number picked : ℕ)
    → me ≡ (view_of_assembled a, [])
    → number ≡ picked → HasAllNodes a
    → (members : Members) × AreMembers a members × IsPrincipal members number
    → Splits IsKept id me.0 me.0 (Standing picked)
stand_of id me a number picked is own whole principal =
    subst (λ n. Splits IsKept id me.0 me.0 (Standing n)) own (stand_as id me a number is whole principal)

-- a seat that shows a principal gives another that shows it too
pub again_as : (id : ℕ) (me : Me ℕ View) (number : ℕ) → me ≡ (Standing number, [])
    → Splits IsKept id me.0 me.0 me.0
again_as id me number is =
    subst (λ (m : Me ℕ View). Splits IsKept id m.0 m.0 m.0) (sym is) allowed
  where
    allowed : Splits IsKept id (Standing number) (Standing number) (Standing number)
    allowed t (scene, lived, agrees, shows) at = (
      scene,
      lived,
      agrees,
      shows_added scene (set t.views id (Standing number)) (Standing number) (subst (Shows scene) (sym (set_again t.views id (Standing number) at)) shows)
          (shows.agrees id (Standing number) at) (λ seat u e. (standing_has_none number u, λ h. h)),
    )

-- the registrar's seat takes in a seat that shows a principal
pub heed_as : (id other : ℕ) (me you : Me ℕ View) (a : Assembled) (number : ℕ)
    → me ≡ (view_of_assembled a, []) → you ≡ (Standing number, [])
    → Joins IsKept id me.0 other you.0 (with_principal me.0 you.0) Spent
heed_as id other me you a number is came = joins_as id other me you (view_of_assembled a) (Standing number) with_principal is came allowed
  where
    known : Known
    known = known_in a.register

    told : Known
    told = record known { principals = known.principals ++ number ∷ [] }

    both : View
    both = Admitted a.register.nodes a.register.callers told a.taken

    allowed : Joins IsKept id (view_of_assembled a) other (Standing number) both Spent
    allowed t (w, lived, agrees, shows) at apart there =
        let stands : IsTrueOf w (Standing number) = ⊎_elim
        (λ (x : (other ≡ id) × (both ≡ Standing number)). absurd (apart x.0))
        (λ (x : (other ≢ id) × (get_elem? t.views other ≡ some (Standing number))). shows.agrees other (Standing number) x.1)
        (at_set t.views id other both (Standing number) there) in
        let (nodes, callers, named, differ, all) = shows.agrees id (view_of_assembled a) at in
        let first = shows_changed w w t.views id (view_of_assembled a) both shows at
        (registrar_heir a.register.nodes a.register.callers known a.taken a.register.nodes a.register.callers told a.taken
        (λ actor one. one))
        (nodes, callers, record { ids = named.ids; premise = named.premise; principals = All-push (Stands w.premise w.ring) known.principals number named.principals stands }, differ, all)
        (λ seat u _ e. shows.agrees seat u e) in
        (w, lived, agrees, spends other w (set t.views id both) first)
