-- Two seats are joined, and a ring step of the first one's node is done beside the second.
use Rattle.std.proofs.Common.{◌≡◌, ◌≢◌, ℕ, Bool, false, List, [], ◌∷◌, ◌⊎◌, Some, None, refl, sym, ap, ◌∙◌, subst, inl, inr, ⊎_elim}
use Rattle.std.proofs.lemmas.List.Elements.{All-nil, All-cons, All-head, All-tail}
use mathlib.Core.Option.{some}
use lib.ListN.{get_elem?}
use Rattle.atomic_table.specs.Table.{Me, Allows, Splits, Joins, Enters}
use Rattle.atomic_table.specs.Table.{keeps as keeps_slots}
use Rattle.atomic_table.proofs.Lists.{at_set}
use Rattle.chord_links.specs.NodeLinks.{NodeLinks}
use Rattle.chord_model.specs.declared.phase.Phase.{Phase}
use Rattle.chord_model.specs.declared.phase.Phase.TheVariants as phase
use Rattle.chord_model.specs.Node.{Node, NodeStep}
use Rattle.chord_model.specs.declared.message.Message.{Message}
use Rattle.chord_ring.specs.Ring.{links_of}
use Rattle.chord_ring.specs.Steps.{Ring, Step, with_links}
use Rattle.chord_table.proofs.Events.{scene_after, true_after, all_sent_after, seen_after}
use Rattle.chord_table.proofs.Keeping.{joins_as, seated_as, spent_has_none}
use Rattle.chord_table.proofs.Owning.{turned, shown_heir, joined_heir}
use Rattle.chord_table.proofs.Rings.{agrees_relinked}
use Rattle.chord_table.proofs.Stays.{Stays, effect_stays}
use Rattle.chord_table.proofs.Showing.{shows_changed, shows_added, shows_parted}
use Rattle.chord_table.proofs.Taking.{IsHeirOfBoth, shows_joined, spent_left}
use Rattle.chord_table.proofs.Worlds.{event_steps, there_after}
use Rattle.chord_table.specs.Actors.{IsThere, AreOne, Event}
use Rattle.chord_table.specs.Scenes.{Scene, Lived, Agrees, RingEffect, bare, links_in, place_of, place_in}
use Rattle.chord_table.specs.Seen.{Actor, OfNode, OfCaller, Sight, View, Admitted, Shown, Together, Witnessed, Sent, Standing, Spent}
use Rattle.chord_table.specs.Views.{OneIs, AllDiffer, ShareOne, IsSeenIn, IsStanding, IsTrueOf, HaveOneOwner, IsKept, view_of, sight_of, with_actor, paired, first_with, second_of, MayRelink, MayRelinkTo}

-- a seat that shows nothing, to stand in for one that is lent to another
pub vacate_as : (slots word : ℕ) → Enters IsKept slots word (λ found w. ◌≡◌ {A = Me ℕ View} (w, []) (Spent, []))
vacate_as slots word t (scene, lived, agrees, shows) len fits = (
  Spent,
  (scene, lived, agrees, shows_added scene t.views Spent shows tt (λ seat u e. (spent_has_none u, spent_left u))),
  refl,
)

-- ---- two seats become one

module _ (s t : Sight) where
  abbrev both : List Sight
  both = s ∷ t ∷ []

  -- one of the two, or the other
  one_of_both : (actor : Actor) → OneIs both actor → AreOne s.actor actor ⊎ AreOne t.actor actor
  one_of_both actor (inl one) = inl one
  one_of_both actor (inr (inl one)) = inr one
  one_of_both actor (inr (inr none)) = absurd none

  first_shared : (sights : List Sight) → ShareOne both sights → OneIs sights s.actor ⊎ OneIs sights t.actor
  first_shared [] h = absurd h
  first_shared (other ∷ rest) (inl one) = ⊎_elim (λ o. inl (inl (turned s.actor other.actor o))) (λ o. inr (inl (turned t.actor other.actor o))) (one_of_both other.actor one)
  first_shared (other ∷ rest) (inr more) = ⊎_elim (λ o. inl (inr o)) (λ o. inr (inr o)) (first_shared rest more)

  second_shared : (sights : List Sight) → ShareOne sights both → OneIs sights s.actor ⊎ OneIs sights t.actor
  second_shared sights (inl one) = inl one
  second_shared sights (inr (inl one)) = inr one
  second_shared sights (inr (inr none)) = absurd none

  heir_of_both : IsHeirOfBoth (view_of s) (view_of t) (Together both)
  heir_of_both = record { left = λ u. left u; right = λ u. right u }
    where
      left : (u : View) → HaveOneOwner (Together both) u → HaveOneOwner (view_of s) u ⊎ HaveOneOwner (view_of t) u
      left (Admitted _ _ _ taken) h = second_shared taken h
      left (Shown actor _) h = one_of_both actor h
      left (Together sights) h = first_shared sights h
      left (Witnessed _) h = inl h
      left (Sent _) h = inl h
      left (Standing _) h = inl h
      left Spent h = inl h

      right : (u : View) → HaveOneOwner u (Together both) → HaveOneOwner u (view_of s) ⊎ HaveOneOwner u (view_of t)
      right (Admitted _ _ _ taken) h = second_shared taken h
      right (Shown actor _) h = ⊎_elim (λ o. inl (turned s.actor actor o)) (λ o. inr (turned t.actor actor o)) (one_of_both actor h)
      right (Together sights) h = second_shared sights h
      right (Witnessed _) h = inl h
      right (Sent _) h = inl h
      right (Standing _) h = inl h
      right Spent h = inl h

-- a seat takes in another one
pub pair_as : (id other : ℕ) (me you : Me ℕ View) (s t : Sight) → me ≡ (view_of s, []) → you ≡ (view_of t, [])
    → Joins IsKept id me.0 other you.0 (paired me.0 you.0) Spent
pair_as id other me you s t is came = joins_as id other me you (view_of s) (view_of t) paired is came allowed
  where
    joined : View
    joined = Together (s ∷ t ∷ [])

    allowed : Joins IsKept id (view_of s) other (view_of t) joined Spent
    allowed state (scene, lived, agrees, shows) at apart there =
        let yours : get_elem? state.views other ≡ some (view_of t) = ⊎_elim
        (λ (x : (other ≡ id) × (joined ≡ view_of t)). absurd (apart x.0))
        (λ (x : (other ≢ id) × (get_elem? state.views other ≡ some (view_of t))). x.1)
        (at_set state.views id other joined (view_of t) there) in
        let differ : AllDiffer (s ∷ t ∷ []) = ((λ (o : OneIs (t ∷ []) s.actor). apart (shows.apart other id (view_of t) (view_of s) yours at (alone o))), ((λ (h : ⊥). h), tt)) in (
          scene,
          lived,
          agrees,
          shows_joined scene state.views id other (view_of s) (view_of t) joined shows at yours (heir_of_both s t)
              (differ, All-cons (IsSeenIn scene) s (t ∷ []) (shows.agrees id (view_of s) at) (All-cons (IsSeenIn scene) t [] (shows.agrees other (view_of t) yours) (All-nil (IsSeenIn scene)))),
        )
      where
        alone : OneIs (t ∷ []) s.actor → AreOne t.actor s.actor
        alone (inl one) = one
        alone (inr none) = absurd none

-- ---- a step of the ring, behind which they are two again

-- the ring has the bare links of a node that it has
placed_bare : (node : Node) (links before : NodeLinks) → place_of false node ≡ Some before → place_of false (record node { links = links }) ≡ Some (bare links)
placed_bare node links before is = in_phase node.phase is
  where
    in_phase : (p : Phase) → links_in false p node.links ≡ Some before → links_in false p links ≡ Some (bare links)
    in_phase phase.Staying e = refl
    in_phase phase.Leaving e = refl
    in_phase phase.Gone e = cc

-- the scene after the first node took its new links
module _ (old other new : Node) (crashed : Bool) (may : MayRelink old other crashed new) where
  abbrev relinked : Node
  relinked = record old { links = may.links }

  abbrev ring_after : Scene → Ring
  ring_after scene = with_links scene.ring old.number (bare may.links)

  abbrev after_relink : Scene → Scene
  after_relink scene = scene_after scene (OfNode relinked false) None None (ring_after scene)

  abbrev IsHere : Scene → Node → Bool → Type 0
  IsHere scene node out =
      IsThere scene.world (OfNode node out) × IsStanding scene.crashed (OfNode node out)

  relinked_scene : (scene : Scene) → Lived scene → Agrees scene → IsHere scene old false
      → IsHere scene other crashed
      → Lived (after_relink scene) × Agrees (after_relink scene)
      × Stays scene.premise scene.ring (ring_after scene)
  relinked_scene scene lived agrees mine theirs =
      let next : Scene = after_relink scene in
      let (taken, is_step) =
      may.step scene.ring (placed_at old false mine) (placed_at other crashed theirs) in
      let effect : RingEffect scene.ring next.ring = RingEffect.Stepped taken
      (subst (λ (n : Node). Step scene.ring taken (with_links scene.ring old.number (bare n.links)))
      may.is is_step) in
      let after : Agrees next =
      agrees_relinked scene.world scene.crashed scene.ring scene.premise old relinked (bare may.links)
      next.world agrees mine.0 refl refl mine.1 may.before may.placed
      (placed_bare old may.links may.before may.placed) in
      let event : Event (OfNode old false) None (OfNode relinked false) None None =
      Event.Acts (NodeStep.Links_change may.links may.me) in
      let step = event_steps scene.world (OfNode old false) (OfNode relinked false) None None None
      mine.0 tt event in (
        Lived.Goes_on lived step refl refl effect after,
        after,
        effect_stays scene next.ring lived effect,
      )
    where
      placed_at : (node : Node) (out : Bool) → IsHere scene node out
          → links_of scene.ring.members node.number ≡ place_of out node
      placed_at node out (there, standing) =
          agrees.members node.number ∙ ap (place_in scene.crashed) there
          ∙ ap (λ gone. place_of gone node) standing

  -- the sight of the first node is true there
  relinked_seen : (scene : Scene) (messages : List Message)
      → IsSeenIn scene (record { actor = OfNode old false; messages = messages })
      → IsSeenIn (after_relink scene) (record { actor = OfNode relinked false; messages = messages })
  relinked_seen scene messages ((there, sent), standing) = (
    (
      there_after scene.world (OfNode old false) (OfNode relinked false) None None refl there,
      all_sent_after scene.world (OfNode relinked false) None None messages sent,
    ),
    standing,
  )

  -- and so is each view of others
  others_relinked : (scene : Scene) (messages : List Message)
      → Stays scene.premise scene.ring (ring_after scene) → IsThere scene.world (OfNode old false)
      → (u : View) → (HaveOneOwner u (Shown (OfNode old false) messages) → ⊥) → IsTrueOf scene u
      → IsTrueOf (after_relink scene) u
  others_relinked scene messages stays there =
      true_after scene (OfNode old false) (OfNode relinked false) messages None None
      (ring_after scene) refl stays refl tt there

-- a step of the ring at the first of two nodes, whose seats are one
relink_nodes : (id : ℕ) (me : Me ℕ View) (old other new : Node) (crashed : Bool)
    (messages more : List Message)
    → me ≡ (
      Together (record { actor = OfNode old false; messages = messages }
          ∷ record { actor = OfNode other crashed; messages = more } ∷ []),
      [],
    )
    → MayRelink old other crashed new
    → Splits IsKept id me.0 (first_with (OfNode new false) me.0) (second_of me.0)
relink_nodes id me old other new crashed messages more is may =
    subst (λ (m : Me ℕ View). Splits IsKept id m.0 (first_with (OfNode new false) m.0) (second_of m.0))
    (sym is)
    (subst (λ (n : Node). Splits IsKept id both_view (Shown (OfNode n false) messages) (view_of t))
    (sym may.is) allowed)
  where
    s : Sight
    s = record { actor = OfNode old false; messages = messages }

    t : Sight
    t = record { actor = OfNode other crashed; messages = more }

    both_view : View
    both_view = Together (s ∷ t ∷ [])

    next : Node
    next = record old { links = may.links }

    allowed : Splits IsKept id both_view (Shown (OfNode next false) messages) (view_of t)
    allowed state (scene, lived, agrees, shows) at =
        let (differ, all) = shows.agrees id both_view at in
        let mine : IsSeenIn scene s = All-head (IsSeenIn scene) s (t ∷ []) all in
        let yours : IsSeenIn scene t =
        All-head (IsSeenIn scene) t [] (All-tail (IsSeenIn scene) s (t ∷ []) all) in
        let (on, after, stays) = relinked_scene old other new crashed may scene lived agrees
        (mine.0.0, mine.1) (yours.0.0, yours.1) in
        let later : Scene = after_relink old other new crashed may scene in (
          later,
          on,
          after,
          shows_parted scene later state.views id both_view (Shown (OfNode next false) messages)
              (view_of t) shows at (joined_heir (s ∷ t ∷ []) (OfNode next false) messages (inl refl))
              (joined_heir (s ∷ t ∷ []) t.actor t.messages (inr (inl refl)))
              (λ one. differ.0 (inl (sym one))) (λ one. differ.0 (inl one))
              (relinked_seen old other new crashed may scene messages mine)
              (seen_after scene (OfNode old false) (OfNode next false) None None later.ring t refl
              (λ one. differ.0 (inl one)) yours)
              (λ seat u away e.
              others_relinked old other new crashed may scene messages stays mine.0.0 u
              (λ one. away (shows.apart seat id u both_view e at
              ((joined_heir (s ∷ t ∷ []) s.actor messages (inl refl)).right u one))) (shows.agrees seat u e)),
        )

-- a step of the ring at one seat alone
relink_node : (slots id word : ℕ) (me : Me ℕ View) (old new : Node) (messages : List Message)
    (f : ℕ → ℕ) → me ≡ (Shown (OfNode old false) messages, []) → MayRelink old old false new
    → Allows IsKept slots id me word f (λ found m. m ≡ (with_actor (OfNode new false) me.0, me.1))
relink_node slots id word me old new messages f is may =
    subst (λ (m : Me ℕ View). Allows IsKept slots id m word f
    (λ found w. w ≡ (with_actor (OfNode new false) m.0, m.1))) (sym is)
    (subst (λ (n : Node). Allows IsKept slots id (view, []) word f
    (λ found w. w ≡ (Shown (OfNode n false) messages, []))) (sym may.is) allowed)
  where
    view : View
    view = Shown (OfNode old false) messages

    next : Node
    next = record old { links = may.links }

    allowed : Allows IsKept slots id (view, []) word f
        (λ found w. w ≡ (Shown (OfNode next false) messages, []))
    allowed state (scene, lived, agrees, shows) len at fits =
        let seen : IsSeenIn scene (record { actor = OfNode old false; messages = messages }) =
        shows.agrees id view at in
        let (on, after, stays) = relinked_scene old old new false may scene lived agrees
        (seen.0.0, seen.1) (seen.0.0, seen.1) in
        let later : Scene = after_relink old old new false may scene in (
          Shown (OfNode next false) messages,
          keeps_slots,
          tt,
          (
            later,
            on,
            after,
            shows_changed scene later state.views id view (Shown (OfNode next false) messages) shows
                at (shown_heir (OfNode old false) (OfNode next false) messages messages refl)
                (relinked_seen old old new false may scene messages seen)
                (λ seat u away e.
                others_relinked old old new false may scene messages stays seen.0.0 u
                (λ one. away (shows.apart seat id u view e at one)) (shows.agrees seat u e)),
          ),
          refl,
        )

pub relink_alone_as : (slots id word : ℕ) (me : Me ℕ View) (s : Sight) (new : Actor) (f : ℕ → ℕ)
    → me ≡ (view_of s, []) → MayRelinkTo s.actor s.actor new
    → Allows IsKept slots id me word f (λ found m. m ≡ (with_actor new me.0, me.1))
relink_alone_as slots id word me s new f is may = of_nodes s.actor new is may
  where
    of_nodes : (a b : Actor) → me ≡ (Shown a s.messages, []) → MayRelinkTo a a b
        → Allows IsKept slots id me word f (λ found m. m ≡ (with_actor b me.0, me.1))
    of_nodes (OfNode old out) (OfNode new away) here (stands, stays, may) =
        subst (λ gone. Allows IsKept slots id me word f
        (λ found m. m ≡ (with_actor (OfNode new gone) me.0, me.1))) (sym stays)
        (relink_node slots id word me old new s.messages f
        (subst (λ gone. me ≡ (Shown (OfNode old gone) s.messages, [])) stands here)
        (subst (λ gone. MayRelink old old gone new) stands may))
    of_nodes (OfNode old out) (OfCaller new) here may = absurd may
    of_nodes (OfCaller old) new here may = absurd may

pub relink_as : (id : ℕ) (me : Me ℕ View) (s t : Sight) (new : Actor) → me ≡ (Together (s ∷ t ∷ []), []) → MayRelinkTo s.actor t.actor new
    → Splits IsKept id me.0 (first_with new me.0) (second_of me.0)
relink_as id me s t new is may = of_nodes s.actor t.actor new is may
  where
    of_nodes : (a b c : Actor)
        → me ≡ (Together (record { actor = a; messages = s.messages } ∷ record { actor = b; messages = t.messages } ∷ []), [])
        → MayRelinkTo a b c
        → Splits IsKept id me.0 (first_with c me.0) (second_of me.0)
    of_nodes (OfNode old out) (OfNode other crashed) (OfNode new away) here (stands, stays, may) =
        subst (λ gone. Splits IsKept id me.0 (first_with (OfNode new gone) me.0) (second_of me.0)) (sym stays)
        (relink_nodes id me old other new crashed s.messages t.messages
        (subst (λ gone. me ≡ (Together (record { actor = OfNode old gone; messages = s.messages } ∷ record { actor = OfNode other crashed; messages = t.messages } ∷ []), [])) stands here) may)
    of_nodes (OfNode old out) (OfNode other crashed) (OfCaller new) here may = absurd may
    of_nodes (OfNode old out) (OfCaller other) new here may = absurd may
    of_nodes (OfCaller old) other new here may = absurd may

-- what the seat is once it took in the other
pub joined_seat : (me you joined : Me ℕ View) (s t : Sight) → me ≡ (view_of s, []) → you ≡ (view_of t, []) → joined ≡ (paired me.0 you.0, me.1) → joined ≡ (Together (s ∷ t ∷ []), [])
joined_seat me you joined s t is came both =
    both ∙ ap (λ (m : Me ℕ View). (paired m.0 you.0, m.1)) is ∙ ap (λ (y : Me ℕ View). (paired (view_of s) y.0, [])) came

-- what the seats are after a step: the first shows the new state, the second what it showed
pub relinked_seats : (me you joined next back : Me ℕ View) (s t : Sight) (new : Actor)
    → me ≡ (view_of s, []) → you ≡ (view_of t, [])
    → joined ≡ (paired me.0 you.0, me.1) → next ≡ (first_with new joined.0, joined.1)
    → back ≡ (second_of joined.0, [])
    → (next ≡ (view_of (sight_of next.0), [])) × (back ≡ (view_of (sight_of back.0), []))
relinked_seats me you joined next back s t new is came both becomes gives =
    let joined_is : joined ≡ (Together (s ∷ t ∷ []), []) =
    joined_seat me you joined s t is came both in (
      seated_as next (record { actor = new; messages = s.messages })
          (becomes ∙ ap (λ (m : Me ℕ View). (first_with new m.0, m.1)) joined_is),
      seated_as back t (gives ∙ ap (λ (m : Me ℕ View). (second_of m.0, [])) joined_is),
    )
