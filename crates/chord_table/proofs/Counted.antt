-- As many seats as there are nodes, or callers, are the seats of all of them.
use Rattle.std.proofs.Common.{◌≡◌, ℕ, Bool, false, List, [], ◌∷◌, length, map, ◌⊎◌, eqb, refl, sym, ap, ◌∙◌, subst, arith, inl, inr, ⊎_elim, All}
use Rattle.std.proofs.lemmas.List.{nil_from_length}
use Rattle.std.proofs.lemmas.List.Elements.{All-head, All-tail, All-weaker}
use Rattle.std.proofs.lemmas.List.Sorted.{IsPermutation-cons, IsPermutation-middle, IsPermutation-refl, IsPermutation-trans, length_permutation}
use Rattle.std.specs.List.Sorted.{IsPermutation}
use Rattle.chord_caller.specs.Caller.{Caller}
use Rattle.chord_map.proofs.Lists.{Has, Each, found}
use Rattle.chord_model.specs.Node.{Node}
use Rattle.chord_model.specs.World.{node_at, caller_at}
use Rattle.chord_table.specs.Actors.{AreOne, IsThere}
use Rattle.chord_table.specs.Scenes.{Scene}
use Rattle.chord_table.specs.Seen.{Actor, OfNode, OfCaller, Sight}
use Rattle.chord_table.specs.Views.{OneIs, AllDiffer, IsSeenIn, among, with_node, with_caller, nodes_among, callers_among}

pub has_mapped : {A B : Type 0} (f : A → B) (xs : List A) (x : A) → Has xs x → Has (map f xs) (f x)
has_mapped f [] x h = absurd h
has_mapped f (y ∷ xs) x (inl e) = inl (ap f e)
has_mapped f (y ∷ xs) x (inr h) = inr (has_mapped f xs x h)

-- ---- lists without repetition

abbrev Once : {A : Type 0} → List A → Type 0
Once [] = Unit {0}
Once (x ∷ xs) = (Has xs x → ⊥) × Once xs

-- the list without one of its elements
record Out {A : Type 0} (xs : List A) (y : A) : Type 0 where
  rest : List A
  moved : IsPermutation xs (y ∷ rest)
  cases : (z : A) → Has xs z → (z ≡ y) ⊎ Has rest z

out_of : {A : Type 0} (xs : List A) (y : A) → Has xs y → Out xs y
out_of [] y h = absurd h
out_of (x ∷ xs) y (inl e) = record {
  rest = xs;
  moved = subst (λ z. IsPermutation (x ∷ xs) (z ∷ xs)) e (IsPermutation-refl (x ∷ xs));
  cases = λ z h. ⊎_elim (λ is. inl (sym is ∙ e)) (λ more. inr more) h;
}
out_of (x ∷ xs) y (inr h) =
    let out = out_of xs y h in
    record {
      rest = x ∷ out.rest;
      moved = IsPermutation-trans (x ∷ xs) (x ∷ y ∷ out.rest) (y ∷ x ∷ out.rest)
          (IsPermutation-cons x xs (y ∷ out.rest) out.moved)
          (IsPermutation-middle (x ∷ []) y out.rest);
      cases = λ z k. ⊎_elim (λ is. inr (inl is))
          (λ more. ⊎_elim (λ is. inl is) (λ left. inr (inr left)) (out.cases z more)) k;
    }

-- the second list is the first in another order
pub record AreSame {A : Type 0} (xs ys : List A) : Type 0 where
  pub moved : IsPermutation xs ys
  pub covers : Each (Has ys) xs

-- the others of a list without one of them
left_out : {A : Type 0} (xs ys : List A) (y : A) (out : Out xs y) → (Has ys y → ⊥)
    → Each (Has xs) (y ∷ ys) → Each (Has out.rest) ys
left_out xs ys y out new each z h = ⊎_elim
    (λ is. absurd (new (subst (Has ys) is h))) (λ k. k) (out.cases z (each z (inr h)))

-- as many elements of a list, none twice, are all of it
all_counted : {A : Type 0} (ys xs : List A) → Once ys → Each (Has xs) ys
    → length ys ≡ length xs → AreSame xs ys
all_counted [] xs once each same =
    subst (λ l. AreSame l []) (sym (nil_from_length xs (sym same)))
    (record { moved = IsPermutation-refl []; covers = λ x h. absurd h })
all_counted (y ∷ ys) xs (new, once) each same =
    let out = out_of xs y (each y (inl refl)) in
    let long = length_permutation xs (y ∷ out.rest) out.moved in
    let more = all_counted ys out.rest once (left_out xs ys y out new each) (omega (arith, long, same)) in
    record {
      moved = IsPermutation-trans xs (y ∷ out.rest) (y ∷ ys) out.moved
          (IsPermutation-cons y out.rest ys more.moved);
      covers = λ z h.
          ⊎_elim (λ is. inl (sym is)) (λ left. inr (more.covers z left)) (out.cases z h);
    }

-- ---- actors of one kind, nodes or callers

-- the actor is of this kind, or it is left out
data IsKind {A : Type 0} (of : Bool → A → Actor) (add : Actor → List A → List A) (actor : Actor) : Type 0 where
  Is_one : (b : Bool) (x : A) → actor ≡ of b x → ((xs : List A) → add actor xs ≡ x ∷ xs)
      → IsKind of add actor
  Is_other : ((xs : List A) → add actor xs ≡ xs) → IsKind of add actor

-- the list has the actor, if it is of this kind
abbrev IsListed : {A : Type 0} → (Bool → A → Actor) → List A → Actor → Type 0
IsListed {A} of xs actor = (b : Bool) (x : A) → actor ≡ of b x → Has xs x

module _ {A : Type 0} (of : Bool → A → Actor) (add : Actor → List A → List A)
    (one : (a b : Bool) (x : A) → AreOne (of a x) (of b x))
    (kind : (actor : Actor) → IsKind of add actor) where
  each_in : (xs : List A) (taken : List Sight) → All (λ (s : Sight). IsListed of xs s.actor) taken
      → Each (Has xs) (among add taken)
  each_in xs [] all = λ y h. absurd h
  each_in xs (sight ∷ rest) all =
      by_kind (kind sight.actor) (All-head (λ (s : Sight). IsListed of xs s.actor) sight rest all)
      (each_in xs rest (All-tail (λ (s : Sight). IsListed of xs s.actor) sight rest all))
    where
      by_kind : IsKind of add sight.actor → IsListed of xs sight.actor
          → Each (Has xs) (among add rest) → Each (Has xs) (add sight.actor (among add rest))
      by_kind (Is_one b x is front) here more =
          subst (Each (Has xs)) (sym (front (among add rest)))
          (λ y h. ⊎_elim (λ e. subst (Has xs) e (here b x is)) (more y) h)
      by_kind (Is_other skip) here more = subst (Each (Has xs)) (sym (skip (among add rest))) more

  -- what is among the actors is one of them
  one_among : (taken : List Sight) (b : Bool) (x : A) → Has (among add taken) x
      → OneIs taken (of b x)
  one_among [] b x h = absurd h
  one_among (sight ∷ rest) b x h = by_kind (kind sight.actor) h (one_among rest b x)
    where
      by_kind : IsKind of add sight.actor → Has (add sight.actor (among add rest)) x
          → (Has (among add rest) x → OneIs rest (of b x))
          → AreOne sight.actor (of b x) ⊎ OneIs rest (of b x)
      by_kind (Is_one a y is front) h more = ⊎_elim
          (λ (e : y ≡ x).
          inl (subst (λ (w : Actor). AreOne w (of b x)) (sym (is ∙ ap (of a) e)) (one a b x)))
          (λ behind. inr (more behind))
          (subst (λ xs. Has xs x) (front (among add rest)) h)
      by_kind (Is_other skip) h more =
          inr (more (subst (λ xs. Has xs x) (skip (among add rest)) h))

  once_among : (taken : List Sight) → AllDiffer taken → Once (among add taken)
  once_among [] differ = tt
  once_among (sight ∷ rest) differ = by_kind (kind sight.actor) (once_among rest differ.1)
    where
      by_kind : IsKind of add sight.actor → Once (among add rest)
          → Once (add sight.actor (among add rest))
      by_kind (Is_one b x is front) more =
          subst Once (sym (front (among add rest)))
          ((λ h. differ.0 (subst (OneIs rest) (sym is) (one_among rest b x h))), more)
      by_kind (Is_other skip) more = subst Once (sym (skip (among add rest))) more

  -- those of this kind are those whose seats were taken in, if these are as many
  counted : (xs : List A) (taken : List Sight) → length (among add taken) ≡ length xs
      → AllDiffer taken → All (λ (s : Sight). IsListed of xs s.actor) taken
      → AreSame xs (among add taken)
  counted xs taken same differ all =
      all_counted (among add taken) xs (once_among taken differ) (each_in xs taken all) same

-- ---- nodes, and callers

abbrev of_node : Bool → Node → Actor
of_node crashed node = OfNode node crashed

abbrev of_caller : Bool → Caller → Actor
of_caller crashed caller = OfCaller caller

node_or_not : (actor : Actor) → IsKind of_node with_node actor
node_or_not (OfNode node crashed) = Is_one crashed node refl (λ nodes. refl)
node_or_not (OfCaller caller) = Is_other (λ nodes. refl)

caller_or_not : (actor : Actor) → IsKind of_caller with_caller actor
caller_or_not (OfNode node crashed) = Is_other (λ callers. refl)
caller_or_not (OfCaller caller) = Is_one false caller refl (λ callers. refl)

module _ (scene : Scene) (taken : List Sight) (differ : AllDiffer taken)
    (seen : All (IsSeenIn scene) taken) where
  pub nodes_counted : length (nodes_among taken) ≡ length scene.world.nodes
      → AreSame scene.world.nodes (nodes_among taken)
  unfolding node_at
  nodes_counted same =
      counted of_node with_node (λ a b node. refl) node_or_not scene.world.nodes taken same differ
      (All-weaker (IsSeenIn scene) (λ (s : Sight). IsListed of_node scene.world.nodes s.actor)
      (λ (s : Sight) (h : IsSeenIn scene s) b node is.
      (found (λ (n : Node). eqb n.number node.number) scene.world.nodes node
      (subst (λ (a : Actor). IsThere scene.world a) is h.0.0)).1) taken seen)

  pub callers_counted : length (callers_among taken) ≡ length scene.world.callers
      → AreSame scene.world.callers (callers_among taken)
  unfolding caller_at
  callers_counted same =
      counted of_caller with_caller (λ a b caller. refl) caller_or_not scene.world.callers taken
      same differ
      (All-weaker (IsSeenIn scene) (λ (s : Sight). IsListed of_caller scene.world.callers s.actor)
      (λ (s : Sight) (h : IsSeenIn scene s) b caller is.
      (found (λ (c : Caller). eqb c.number caller.number) scene.world.callers caller
      (subst (λ (a : Actor). IsThere scene.world a) is h.0.0)).1) taken seen)
