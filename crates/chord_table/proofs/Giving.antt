-- The registrar's seat gives back the last seat that it took in.
use Rattle.std.proofs.Common.{◌≡◌, ◌≢◌, ℕ, List, [], ◌∷◌, ◌++◌, refl, sym, ap, ◌∙◌, subst, inl, inr, All}
use Rattle.std.proofs.lemmas.List.Elements.{All-nil, All-cons, All-head, All-tail}
use Rattle.atomic_table.specs.Table.{Me, Splits}
use Rattle.chord_table.proofs.Keeping.{seated_as}
use Rattle.chord_table.proofs.Owning.{itself, turned, registrar_heir, seat_heir}
use Rattle.chord_table.proofs.Showing.{IsHeir, shows_parted}
use Rattle.chord_table.specs.Actors.{AreOne}
use Rattle.chord_table.specs.Seen.{Actor, Sight, View}
use Rattle.chord_table.specs.Views.{known_in, OneIs, AllDiffer, IsSeenIn, IsKept, Assembled, Register, view_of, view_of_assembled, sight_of, last_of, all_but_last, without_last, last_seat}

-- ---- the last of a list

pub split_last : (taken : List Sight) → taken ≢ [] → taken ≡ all_but_last taken ++ last_of taken ∷ []
split_last [] some = absurd (some refl)
split_last (sight ∷ []) some = refl
split_last (sight ∷ second ∷ rest) some = ap (λ l. sight ∷ l) (split_last (second ∷ rest) (λ e. cc))

-- the last one of a list with one appended is that one
pub last_of_push : (taken : List Sight) (sight : Sight) → last_of (taken ++ sight ∷ []) ≡ sight
last_of_push [] sight = refl
last_of_push (first ∷ []) sight = refl
last_of_push (first ∷ second ∷ rest) sight = last_of_push (second ∷ rest) sight

pub all_but_push : (taken : List Sight) (sight : Sight) → all_but_last (taken ++ sight ∷ []) ≡ taken
all_but_push [] sight = refl
all_but_push (first ∷ []) sight = refl
all_but_push (first ∷ second ∷ rest) sight = ap (λ l. first ∷ l) (all_but_push (second ∷ rest) sight)

-- there is one
pub some_behind : (taken : List Sight) (sight : Sight) → taken ++ sight ∷ [] ≢ []
some_behind [] sight = λ e. cc
some_behind (first ∷ rest) sight = λ e. cc

-- ---- no actor twice

module _ (s : Sight) where
  one_before : (rest : List Sight) (actor : Actor) → OneIs rest actor → OneIs (rest ++ s ∷ []) actor
  one_before [] actor h = absurd h
  one_before (first ∷ rest) actor (inl one) = inl one
  one_before (first ∷ rest) actor (inr h) = inr (one_before rest actor h)

  pub one_last : (rest : List Sight) (actor : Actor) → AreOne s.actor actor → OneIs (rest ++ s ∷ []) actor
  one_last [] actor one = inl one
  one_last (first ∷ rest) actor one = inr (one_last rest actor one)

  pub differ_before : (rest : List Sight) → AllDiffer (rest ++ s ∷ []) → AllDiffer rest × (OneIs rest s.actor → ⊥)
  differ_before [] differ = (tt, (λ h. h))
  differ_before (first ∷ rest) (none, differ) =
      let (before, apart) = differ_before rest differ in (
        ((λ one. none (one_before rest first.actor one)), before),
        (λ h. by_place h apart),
      )
    where
      by_place : OneIs (first ∷ rest) s.actor → (OneIs rest s.actor → ⊥) → ⊥
      by_place (inl one) apart = none (one_last rest first.actor (turned first.actor s.actor one))
      by_place (inr h) apart = apart h

  pub all_before : (P : Sight → Type 0) (rest : List Sight) → All P (rest ++ s ∷ []) → All P rest × P s
  all_before P [] all = (All-nil P, All-head P s [] all)
  all_before P (first ∷ rest) all =
      let (before, last) = all_before P rest (All-tail P first (rest ++ s ∷ []) all) in
      (All-cons P first rest (All-head P first (rest ++ s ∷ []) all) before, last)

-- ---- the seat is given back

pub give_split : (id : ℕ) (register : Register) (rest : List Sight) (s : Sight)
    → Splits IsKept id (view_of_assembled (record { register = register; taken = rest ++ s ∷ [] })) (view_of_assembled (record { register = register; taken = rest })) (view_of s)
give_split id register rest s = allowed
  where
    old : View
    old = view_of_assembled (record { register = register; taken = rest ++ s ∷ [] })

    left_view : View
    left_view = view_of_assembled (record { register = register; taken = rest })

    first : IsHeir old left_view
    first = registrar_heir register.nodes register.callers (known_in register) (rest ++ s ∷ [])
        register.nodes register.callers (known_in register) rest (one_before s rest)

    second : IsHeir old (view_of s)
    second = seat_heir register.nodes register.callers (known_in register) (rest ++ s ∷ []) s.actor s.messages
        (one_last s rest s.actor (itself s.actor))

    allowed : Splits IsKept id old left_view (view_of s)
    allowed t (scene, lived, agrees, shows) at =
        let (nodes, callers, named, differ, all) = shows.agrees id old at in
        let (before, apart) = differ_before s rest differ in
        let (seen, last) = all_before s (IsSeenIn scene) rest all in (
          scene,
          lived,
          agrees,
          shows_parted scene scene t.views id old left_view (view_of s) shows at first second apart apart
              (nodes, callers, named, before, seen) last (λ seat u away e. shows.agrees seat u e),
        )

pub give_as : (id : ℕ) (me : Me ℕ View) (a : Assembled) → me ≡ (view_of_assembled a, []) → a.taken ≢ [] → Splits IsKept id me.0 (without_last me.0) (last_seat me.0)
give_as id me a is some =
    subst (λ (m : Me ℕ View). Splits IsKept id m.0 (without_last m.0) (last_seat m.0)) (sym is)
    (subst (λ (taken : List Sight). Splits IsKept id (view_of_assembled (record a { taken = taken })) (view_of_assembled (record a { taken = all_but_last a.taken })) (view_of (last_of a.taken)))
    (sym (split_last a.taken some)) (give_split id a.register (all_but_last a.taken) (last_of a.taken)))

-- what the two seats are then
pub left_assembled : (old new : Me ℕ View) (a : Assembled) → old ≡ (view_of_assembled a, [])
    → new ≡ (without_last old.0, old.1)
    → new ≡ (view_of_assembled (record a { taken = all_but_last a.taken }), [])
left_assembled old new a is becomes = becomes ∙ ap (λ (m : Me ℕ View). (without_last m.0, m.1)) is

pub given_seat : (old back : Me ℕ View) (a : Assembled) → old ≡ (view_of_assembled a, [])
    → back ≡ (last_seat old.0, []) → back ≡ (view_of (sight_of back.0), [])
given_seat old back a is gives =
    seated_as back (last_of a.taken) (gives ∙ ap (λ (m : Me ℕ View). (last_seat m.0, [])) is)
