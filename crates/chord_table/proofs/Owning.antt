-- Which views have one owner, after sights were changed, taken in or given back.
use Rattle.std.proofs.Common.{ℕ, List, [], ◌∷◌, map, inl, inr, refl, sym, ◌∙◌}
use Rattle.chord_model.specs.declared.message.Message.{Message}
use Rattle.chord_table.proofs.Showing.{IsHeir}
use Rattle.chord_table.specs.Actors.{AreOne}
use Rattle.chord_table.specs.Seen.{Actor, OfNode, OfCaller, Sight, Known, View, Admitted, Shown, Together, Witnessed, Sent, Standing, Spent}
use Rattle.chord_table.specs.Views.{OneIs, AllDiffer, ShareOne, HaveOneOwner}

-- ---- one actor

pub itself : (actor : Actor) → AreOne actor actor
itself (OfNode node out) = refl
itself (OfCaller caller) = refl

pub turned : (a b : Actor) → AreOne a b → AreOne b a
turned (OfNode a x) (OfNode b y) one = sym one
turned (OfCaller a) (OfCaller b) one = sym one
turned (OfNode a x) (OfCaller b) one = one
turned (OfCaller a) (OfNode b y) one = one

pub one_left : (old new other : Actor) → AreOne old new → AreOne new other → AreOne old other
one_left (OfNode old a) (OfNode new b) (OfNode other c) same one = same ∙ one
one_left (OfCaller old) (OfCaller new) (OfCaller other) same one = same ∙ one
one_left (OfNode old a) (OfCaller new) other same one = absurd same
one_left (OfCaller old) (OfNode new b) other same one = absurd same
one_left (OfNode old a) (OfNode new b) (OfCaller other) same one = absurd one
one_left (OfCaller old) (OfCaller new) (OfNode other c) same one = absurd one

pub one_right : (old new other : Actor) → AreOne old new → AreOne other new → AreOne other old
one_right (OfNode old a) (OfNode new b) (OfNode other c) same one = one ∙ sym same
one_right (OfCaller old) (OfCaller new) (OfCaller other) same one = one ∙ sym same
one_right (OfNode old a) (OfCaller new) other same one = absurd same
one_right (OfCaller old) (OfNode new b) other same one = absurd same
one_right (OfNode old a) (OfNode new b) (OfCaller other) same one = absurd one
one_right (OfCaller old) (OfCaller new) (OfNode other c) same one = absurd one

-- if the list has a sight of an actor in its new state, it has one of the old state
pub one_is_left : (old new : Actor) (taken : List Sight) → AreOne old new → OneIs taken new → OneIs taken old
one_is_left old new [] same h = h
one_is_left old new (sight ∷ rest) same (inl h) = inl (one_right old new sight.actor same h)
one_is_left old new (sight ∷ rest) same (inr h) = inr (one_is_left old new rest same h)

-- ---- one of several

-- these sights are all of actors that those sights have
abbrev pub AreOf : List Sight → List Sight → Type 0
AreOf sights others = (actor : Actor) → OneIs sights actor → OneIs others actor

pub shared_of : (sights others : List Sight) → AreOf sights others → (more : List Sight)
    → ShareOne sights more → ShareOne others more
shared_of sights others are [] h = h
shared_of sights others are (first ∷ rest) (inl one) = inl (are first.actor one)
shared_of sights others are (first ∷ rest) (inr h) = inr (shared_of sights others are rest h)

-- if one of them is an actor then one of them is the same actor in another state
one_of : (sights : List Sight) (actor other : Actor) → OneIs sights actor → AreOne actor other
    → OneIs sights other
one_of [] actor other own one = own
one_of (first ∷ rest) actor other (inl same) one = inl (one_left first.actor actor other same one)
one_of (first ∷ rest) actor other (inr own) one = inr (one_of rest actor other own one)

-- sights that both have an actor share it
share_one : (sights others : List Sight) (actor : Actor) → OneIs sights actor → OneIs others actor
    → ShareOne sights others
share_one sights [] actor own h = h
share_one sights (first ∷ rest) actor own (inl one) =
    inl (one_of sights actor first.actor own (turned first.actor actor one))
share_one sights (first ∷ rest) actor own (inr h) = inr (share_one sights rest actor own h)

-- sights whose actors are in other states
module _ (change : Actor → Actor) (same : (actor other : Actor) → AreOne (change actor) other → AreOne actor other) where
  abbrev changed : Sight → Sight
  changed sight = record { actor = change sight.actor; messages = sight.messages }

  pub are_changed : (taken : List Sight) → AreOf (map changed taken) taken
  are_changed [] actor one = one
  are_changed (sight ∷ rest) actor (inl one) = inl (same sight.actor actor one)
  are_changed (sight ∷ rest) actor (inr one) = inr (are_changed rest actor one)

  one_unchanged : (taken : List Sight) (actor : Actor) → OneIs taken (change actor) → OneIs taken actor
  one_unchanged [] actor one = one
  one_unchanged (sight ∷ rest) actor (inl one) =
      inl (turned actor sight.actor (same actor sight.actor (turned sight.actor (change actor) one)))
  one_unchanged (sight ∷ rest) actor (inr one) = inr (one_unchanged rest actor one)

  pub differ_changed : (taken : List Sight) → AllDiffer taken → AllDiffer (map changed taken)
  differ_changed [] differ = tt
  differ_changed (sight ∷ rest) differ = (
    (λ one. differ.0 (one_unchanged rest sight.actor (are_changed rest (change sight.actor) one))),
    differ_changed rest differ.1,
  )

-- ---- heirs

pub shown_heir : (old new : Actor) (messages more : List Message) → AreOne old new → IsHeir (Shown old messages) (Shown new more)
shown_heir old new messages more same = record { left = λ u. left u; right = λ u. right u }
  where
    left : (u : View) → HaveOneOwner (Shown new more) u → HaveOneOwner (Shown old messages) u
    left (Admitted _ _ _ taken) h = one_is_left old new taken same h
    left (Shown other _) h = one_left old new other same h
    left (Together sights) h = one_is_left old new sights same h
    left (Witnessed _) h = h
    left (Sent _) h = h
    left (Standing _) h = h
    left Spent h = h

    right : (u : View) → HaveOneOwner u (Shown new more) → HaveOneOwner u (Shown old messages)
    right (Admitted _ _ _ taken) h = one_is_left old new taken same h
    right (Shown other _) h = one_right old new other same h
    right (Together sights) h = one_is_left old new sights same h
    right (Witnessed _) h = h
    right (Sent _) h = h
    right (Standing _) h = h
    right Spent h = h

-- the registrar's view with none but these sights
pub registrar_heir : (nodes callers : List ℕ) (known : Known) (taken : List Sight)
    (more_nodes more_callers : List ℕ) (more_known : Known) (sights : List Sight) → AreOf sights taken
    → IsHeir (Admitted nodes callers known taken) (Admitted more_nodes more_callers more_known sights)
registrar_heir nodes callers known taken more_nodes more_callers more_known sights are =
    record { left = λ u. left u; right = λ u. right u }
  where
    old : View
    old = Admitted nodes callers known taken

    new : View
    new = Admitted more_nodes more_callers more_known sights

    left : (u : View) → HaveOneOwner new u → HaveOneOwner old u
    left (Admitted _ _ _ _) h = h
    left (Shown actor _) h = are actor h
    left (Together others) h = shared_of sights taken are others h
    left (Witnessed _) h = h
    left (Sent _) h = h
    left (Standing _) h = h
    left Spent h = h

    right : (u : View) → HaveOneOwner u new → HaveOneOwner u old
    right (Admitted _ _ _ _) h = h
    right (Shown actor _) h = are actor h
    right (Together others) h = shared_of sights taken are others h
    right (Witnessed _) h = h
    right (Sent _) h = h
    right (Standing _) h = h
    right Spent h = h

-- the view of an actor whose seat the registrar's took in
pub seat_heir : (nodes callers : List ℕ) (known : Known) (taken : List Sight) (actor : Actor)
    (messages : List Message) → OneIs taken actor
    → IsHeir (Admitted nodes callers known taken) (Shown actor messages)
seat_heir nodes callers known taken actor messages own =
    record { left = λ u. left u; right = λ u. right u }
  where
    old : View
    old = Admitted nodes callers known taken

    left : (u : View) → HaveOneOwner (Shown actor messages) u → HaveOneOwner old u
    left (Admitted _ _ _ _) h = tt
    left (Shown other _) h = one_of taken actor other own h
    left (Together others) h = share_one taken others actor own h
    left (Witnessed _) h = h
    left (Sent _) h = h
    left (Standing _) h = h
    left Spent h = h

    right : (u : View) → HaveOneOwner u (Shown actor messages) → HaveOneOwner u old
    right (Admitted _ _ _ _) h = tt
    right (Shown other _) h = one_of taken actor other own (turned other actor h)
    right (Together others) h = share_one taken others actor own h
    right (Witnessed _) h = h
    right (Sent _) h = h
    right (Standing _) h = h
    right Spent h = h

-- the view of one of the actors whose seats were joined
pub joined_heir : (sights : List Sight) (actor : Actor) (messages : List Message) → OneIs sights actor
    → IsHeir (Together sights) (Shown actor messages)
joined_heir sights actor messages own = record { left = λ u. left u; right = λ u. right u }
  where
    left : (u : View) → HaveOneOwner (Shown actor messages) u → HaveOneOwner (Together sights) u
    left (Admitted _ _ _ taken) h = share_one taken sights actor h own
    left (Shown other _) h = one_of sights actor other own h
    left (Together others) h = share_one sights others actor own h
    left (Witnessed _) h = h
    left (Sent _) h = h
    left (Standing _) h = h
    left Spent h = h

    right : (u : View) → HaveOneOwner u (Shown actor messages) → HaveOneOwner u (Together sights)
    right (Admitted _ _ _ taken) h = share_one taken sights actor h own
    right (Shown other _) h = one_of sights actor other own (turned other actor h)
    right (Together others) h = share_one others sights actor h own
    right (Witnessed _) h = h
    right (Sent _) h = h
    right (Standing _) h = h
    right Spent h = h
