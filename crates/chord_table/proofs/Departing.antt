-- A node crashes, while the registrar's seat has those of all nodes.
use Rattle.std.proofs.Common.{◌≡◌, ◌≢◌, ℕ, ◌||◌, eqb, true, false, List, [], ◌∷◌, ◌++◌, map, set, Option, Some, None, refl, sym, ap, ◌∙◌, subst, inl, inr, ⊎_elim, All}
use Rattle.std.specs.Prelude.{is_some, IsTrue}
use Rattle.std.proofs.lemmas.List.{get_or-set_other, length-set}
use Rattle.std.proofs.lemmas.List.Elements.{All-nil, All-cons, All-head, All-push, All-tail}
use Rattle.std.proofs.lemmas.Option.{none-some}
use Rattle.atomic_table.specs.Table.{Me, Allows}
use Rattle.atomic_table.specs.Table.{keeps as keeps_slots}
use Rattle.chord_map.proofs.Equal.{same_or_not, eqb_same, eqb_other}
use Rattle.chord_model.proofs.Numbered.{nodes_by}
use Rattle.chord_model.specs.Node.{Node}
use Rattle.chord_model.specs.declared.message.Message.{Message}
use Rattle.chord_model.specs.World.{node_at}
use Rattle.chord_ring.specs.Ring.{Members, links_of, CanDepart}
use Rattle.chord_table.proofs.Giving.{all_before, all_but_push, differ_before, last_of_push, one_last}
use Rattle.chord_table.proofs.Owning.{AreOf, are_changed, differ_changed, registrar_heir, seat_heir}
use Rattle.chord_table.proofs.Places.{placed_one}
use Rattle.chord_table.proofs.Rings.{member_node, none_set}
use Rattle.chord_table.proofs.Stays.{gone_stays, broken_stays, knows_on, knows_broken}
use Rattle.chord_table.proofs.Showing.{IsHeir, shows_changed}
use Rattle.chord_table.proofs.Taking.{differ_push}
use Rattle.chord_table.proofs.WholeRing.{members_same}
use Rattle.chord_table.specs.Actors.{AreOne}
use Rattle.chord_table.specs.Rings.{AreMembers, place_among}
use Rattle.chord_table.specs.Scenes.{Scene, Lived, Agrees, place_of, place_in, is_among, with_crash, with_break}
use Rattle.chord_table.specs.Seen.{Actor, OfNode, OfCaller, Sight, View, Admitted, Shown, Together, Witnessed, Sent, Standing, Spent}
use Rattle.chord_table.specs.Views.{OneIs, IsSeenIn, IsTrueOf, HaveOneOwner, IsKept, Assembled, Register, known_in, view_of_assembled, HasAllNodes, crash_actor, crash_sight, with_crashed_node, with_broken_node, broken_actor, node_in, last_of}

-- ---- the ring

out_place : (crashed : List ℕ) (number : ℕ) (found : Option Node) → ((node : Node) → found ≡ Some node → node.number ≡ number) → place_in (number ∷ crashed) found ≡ None
out_place crashed number None own = refl
out_place crashed number (Some node) own =
    let same : eqb number node.number ≡ true = eqb_same number node.number (sym (own node refl)) in
    ap (λ b. place_of (b || is_among node.number crashed) node) same

still_place : (crashed : List ℕ) (number other : ℕ) (found : Option Node) → other ≢ number → ((node : Node) → found ≡ Some node → node.number ≡ other)
    → place_in (number ∷ crashed) found ≡ place_in crashed found
still_place crashed number other None apart own = refl
still_place crashed number other (Some node) apart own =
    let away : eqb number node.number ≡ false = eqb_other number node.number (λ e. apart (sym (own node refl) ∙ sym e)) in
    ap (λ b. place_of (b || is_among node.number crashed) node) away

agrees_crashed : (scene : Scene) (number : ℕ) (node : Node) → Agrees scene → node_at number scene.world.nodes ≡ Some node → Agrees (with_crash number scene)
agrees_crashed scene number node agrees here = record { members = members; counted = length-set scene.ring.members number None ∙ agrees.counted; named = agrees.named; known = known }
  where
    own : (other : ℕ) (n : Node) → node_at other scene.world.nodes ≡ Some n → n.number ≡ other
    own other n e = nodes_by.number other scene.world.nodes n e

    members : (other : ℕ) → links_of (set scene.ring.members number None) other ≡ place_in (number ∷ scene.crashed) (node_at other scene.world.nodes)
    members other = ⊎_elim
        (λ (same : other ≡ number).
        subst (λ n. links_of (set scene.ring.members number None) n ≡ place_in (number ∷ scene.crashed) (node_at n scene.world.nodes)) (sym same)
        (none_set scene.ring.members number ∙ sym (out_place scene.crashed number (node_at number scene.world.nodes) (own number))))
        (λ (apart : other ≢ number).
        get_or-set_other scene.ring.members number other None None apart ∙ agrees.members other
        ∙ sym (still_place scene.crashed number other (node_at other scene.world.nodes) apart (own other)))
        (same_or_not other number)

    known : (other : ℕ) → node_at other scene.world.nodes ≡ None → is_among other (number ∷ scene.crashed) ≡ false
    known other none =
        let away : eqb number other ≡ false = eqb_other number other (λ e. none-some node (sym (subst (λ n. node_at n scene.world.nodes ≡ None) (sym e) none) ∙ here)) in
        ap (λ b. b || is_among other scene.crashed) away ∙ agrees.known other none

-- ---- the sights

same_actor : (number : ℕ) (actor other : Actor) → AreOne (crash_actor number actor) other → AreOne actor other
same_actor number (OfNode node out) (OfNode other away) one = one
same_actor number (OfCaller caller) (OfCaller other) one = one
same_actor number (OfNode node out) (OfCaller other) one = one
same_actor number (OfCaller caller) (OfNode other away) one = one

seen_crashed : (scene : Scene) (number : ℕ) (sight : Sight) → IsSeenIn scene sight → IsSeenIn (with_crash number scene) (crash_sight number sight)
seen_crashed scene number sight seen = by_kind sight.actor seen
  where
    by_kind : (actor : Actor) → IsSeenIn scene (record { actor = actor; messages = sight.messages })
        → IsSeenIn (with_crash number scene) (record { actor = crash_actor number actor; messages = sight.messages })
    by_kind (OfNode node out) (there, standing) = (there, ap (λ b. eqb number node.number || b) standing)
    by_kind (OfCaller caller) (there, standing) = (there, standing)

all_crashed : (scene : Scene) (number : ℕ) (taken : List Sight) → All (IsSeenIn scene) taken → All (IsSeenIn (with_crash number scene)) (map (crash_sight number) taken)
all_crashed scene number [] all = All-nil (IsSeenIn (with_crash number scene))
all_crashed scene number (sight ∷ rest) all =
    All-cons (IsSeenIn (with_crash number scene)) (crash_sight number sight) (map (crash_sight number) rest)
    (seen_crashed scene number sight (All-head (IsSeenIn scene) sight rest all)) (all_crashed scene number rest (All-tail (IsSeenIn scene) sight rest all))

-- ---- the others

-- the sight of an actor that is not the node
seen_still : (scene : Scene) (node : Node) (sight : Sight) → (AreOne sight.actor (OfNode node false) → ⊥)
    → IsSeenIn scene sight → IsSeenIn (with_crash node.number scene) sight
seen_still scene node sight apart seen = by_kind sight.actor apart seen
  where
    by_kind : (actor : Actor) → (AreOne actor (OfNode node false) → ⊥)
        → IsSeenIn scene (record { actor = actor; messages = sight.messages })
        → IsSeenIn (with_crash node.number scene) (record { actor = actor; messages = sight.messages })
    by_kind (OfNode other out) away (there, standing) =
        let differs : eqb node.number other.number ≡ false =
        eqb_other node.number other.number (λ e. away (sym e)) in
        (there, ap (λ b. b || is_among other.number scene.crashed) differs ∙ standing)
    by_kind (OfCaller caller) away (there, standing) = (there, standing)

all_still : (scene : Scene) (node : Node) (sights : List Sight) → (OneIs sights (OfNode node false) → ⊥)
    → All (IsSeenIn scene) sights → All (IsSeenIn (with_crash node.number scene)) sights
all_still scene node [] apart all = All-nil (IsSeenIn (with_crash node.number scene))
all_still scene node (sight ∷ rest) apart all =
    All-cons (IsSeenIn (with_crash node.number scene)) sight rest
    (seen_still scene node sight (λ one. apart (inl one)) (All-head (IsSeenIn scene) sight rest all))
    (all_still scene node rest (λ one. apart (inr one)) (All-tail (IsSeenIn scene) sight rest all))

-- a view of none of the actors whose seats the registrar's took in, the node among them, stays true
still : (scene : Scene) (node : Node) (a : Assembled) → OneIs a.taken (OfNode node false)
    → (u : View) → (HaveOneOwner u (view_of_assembled a) → ⊥) → IsTrueOf scene u
    → IsTrueOf (with_crash node.number scene) u
still scene node a own u apart h = by_view u apart h
  where
    heir : IsHeir (view_of_assembled a) (Shown (OfNode node false) [])
    heir = seat_heir a.register.nodes a.register.callers (known_in a.register) a.taken (OfNode node false) [] own

    by_view : (u : View) → (HaveOneOwner u (view_of_assembled a) → ⊥) → IsTrueOf scene u
        → IsTrueOf (with_crash node.number scene) u
    by_view (Admitted _ _ _ _) apart h = absurd (apart tt)
    by_view (Shown actor messages) apart h =
        seen_still scene node (record { actor = actor; messages = messages })
        (λ one. apart (heir.right (Shown actor messages) one)) h
    by_view (Together sights) apart (differ, all) =
        (differ, all_still scene node sights (λ one. apart (heir.right (Together sights) one)) all)
    by_view (Witnessed callers) apart h = h
    by_view (Sent message) apart h = h
    by_view (Standing other) apart h = gone_stays scene.premise scene.ring node.number other h
    by_view Spent apart h = h

-- and so it does where the crash is by force
still_broken : (scene : Scene) (node : Node) (a : Assembled) → OneIs a.taken (OfNode node false)
    → (u : View) → (HaveOneOwner u (view_of_assembled a) → ⊥) → IsTrueOf scene u
    → IsTrueOf (with_break node.number scene) u
still_broken scene node a own (Admitted _ _ _ _) apart h = absurd (apart tt)
still_broken scene node a own (Shown actor messages) apart h = still scene node a own (Shown actor messages) apart h
still_broken scene node a own (Together sights) apart h = still scene node a own (Together sights) apart h
still_broken scene node a own (Witnessed callers) apart h = h
still_broken scene node a own (Sent message) apart h = h
still_broken scene node a own (Standing other) apart h = broken_stays scene.premise scene.ring node.number other h
still_broken scene node a own Spent apart h = h

-- ---- a node crashes

pub crash_as : (slots id word : ℕ) (me : Me ℕ View) (a : Assembled) (number : ℕ) (f : ℕ → ℕ)
    → me ≡ (view_of_assembled a, []) → HasAllNodes a
    → (members : Members) × AreMembers a members × CanDepart members number
    → Allows IsKept slots id me word f (λ found m. m ≡ (with_crashed_node number me.0, me.1))
crash_as slots id word me a number f is whole (members, are, can) =
    subst (λ (m : Me ℕ View). Allows IsKept slots id m word f (λ found w. w ≡ (with_crashed_node number m.0, m.1))) (sym is) allowed
  where
    old : View
    old = view_of_assembled a

    new : View
    new = view_of_assembled (record a { taken = map (crash_sight number) a.taken })

    heir : IsHeir old new
    heir = registrar_heir a.register.nodes a.register.callers (known_in a.register) a.taken
        a.register.nodes a.register.callers (known_in a.register) (map (crash_sight number) a.taken)
        (are_changed (crash_actor number) (same_actor number) a.taken)

    allowed : Allows IsKept slots id (old, []) word f (λ found w. w ≡ (new, []))
    allowed t (scene, lived, agrees, shows) len at fits =
        let (nodes, callers, named, differ, all) = shows.agrees id old at in
        let may : CanDepart scene.ring.members number =
        subst (λ (ms : Members). CanDepart ms number) (members_same scene a agrees nodes named differ all whole members are) can in
        let (node, here) = member_node scene agrees number may.0 in
        let same : number ≡ node.number = sym (nodes_by.number number scene.world.nodes node here) in
        let own : OneIs a.taken (OfNode node false) =
        placed_one a.taken node (subst (λ n. IsTrue (is_some (place_among n a.taken))) same (sym (ap is_some (are.links number)) ∙ can.0)) in
        let after = agrees_crashed scene number node agrees here in (
          new,
          keeps_slots,
          tt,
          (
            with_crash number scene,
            Lived.Crashes number lived may after,
            after,
            shows_changed scene (with_crash number scene) t.views id old new shows at heir
                (nodes, callers, knows_on scene (with_crash number scene) (known_in a.register) refl refl (λ other stands. gone_stays scene.premise scene.ring number other stands) named, differ_changed (crash_actor number) (same_actor number) a.taken differ, all_crashed scene number a.taken all)
                (λ seat u apart e. subst (λ n. IsTrueOf (with_crash n scene) u) (sym same)
                (still scene node a own u (λ one. apart (shows.apart seat id u old e at one)) (shows.agrees seat u e))),
          ),
          refl,
        )

-- the same, where the proof picked the number
pub crash_of : (slots id word : ℕ) (me : Me ℕ View) (a : Assembled) (number picked : ℕ) (f : ℕ → ℕ)
    → me ≡ (view_of_assembled a, []) → number ≡ picked → HasAllNodes a
    → (members : Members) × AreMembers a members × CanDepart members number
    → Allows IsKept slots id me word f (λ found m. m ≡ (with_crashed_node picked me.0, me.1))
crash_of slots id word me a number picked f is own whole can =
    subst (λ n. Allows IsKept slots id me word f (λ found m. m ≡ (with_crashed_node n me.0, me.1))) own
    (crash_as slots id word me a number f is whole can)

-- ---- a node crashes by force

agrees_broken : (scene : Scene) (node : Node) → Agrees scene → node_at node.number scene.world.nodes ≡ Some node → Agrees (with_break node.number scene)
agrees_broken scene node agrees here =
    let after = agrees_crashed scene node.number node agrees here in
    record { members = after.members; counted = after.counted; named = after.named; known = after.known }

-- the registrar's view once the last node crashed by force
broken_view : (register : Register) (others : List Sight) (s : Sight)
    → ◌≡◌ {A = Me ℕ View} (with_broken_node (view_of_assembled (record { register = register; taken = others ++ s ∷ [] })), [])
    (view_of_assembled (record { register = record register { premise = false }; taken = others ++ record { actor = broken_actor s.actor; messages = s.messages } ∷ [] }), [])
broken_view register others s =
    ap (λ (l : List Sight). (view_of_assembled (record { register = record register { premise = false }; taken = l ++ record { actor = broken_actor (last_of (others ++ s ∷ [])).actor; messages = (last_of (others ++ s ∷ [])).messages } ∷ [] }), [])) (all_but_push others s)
    ∙ ap (λ (last : Sight). (view_of_assembled (record { register = record register { premise = false }; taken = others ++ record { actor = broken_actor last.actor; messages = last.messages } ∷ [] }), [])) (last_of_push others s)

-- the sights are of the same actors
broken_one : (node : Node) (actor : Actor) → AreOne (OfNode node true) actor → AreOne (OfNode node false) actor
broken_one node (OfNode other out) one = one
broken_one node (OfCaller caller) one = one

are_broken : (others : List Sight) (node : Node) (messages : List Message) → AreOf (others ++ record { actor = OfNode node true; messages = messages } ∷ []) (others ++ record { actor = OfNode node false; messages = messages } ∷ [])
are_broken [] node messages actor (inl one) = inl (broken_one node actor one)
are_broken [] node messages actor (inr none) = absurd none
are_broken (first ∷ rest) node messages actor (inl one) = inl one
are_broken (first ∷ rest) node messages actor (inr one) = inr (are_broken rest node messages actor one)

still_away : (others : List Sight) (node : Node) → (OneIs others (OfNode node false) → ⊥) → OneIs others (OfNode node true) → ⊥
still_away [] node apart h = h
still_away (first ∷ rest) node apart (inl one) = apart (inl (by_kind first.actor one))
  where
    by_kind : (actor : Actor) → AreOne actor (OfNode node true) → AreOne actor (OfNode node false)
    by_kind (OfNode other out) one = one
    by_kind (OfCaller caller) one = one
still_away (first ∷ rest) node apart (inr h) = still_away rest node (λ one. apart (inr one)) h

-- while the registrar's seat has that of the node as the last one
pub break_as : (slots id word : ℕ) (me : Me ℕ View) (register : Register) (others : List Sight) (node : Node) (messages : List Message) (f : ℕ → ℕ)
    → me ≡ (view_of_assembled (record { register = register; taken = others ++ record { actor = OfNode node false; messages = messages } ∷ [] }), [])
    → Allows IsKept slots id me word f (λ found m. m ≡ (with_broken_node me.0, me.1))
break_as slots id word me register others node messages f is =
    subst (λ (m : Me ℕ View). Allows IsKept slots id m word f (λ found w. w ≡ (with_broken_node m.0, m.1))) (sym is) allowed
  where
    sight : Sight
    sight = record { actor = OfNode node false; messages = messages }

    broken : Sight
    broken = record { actor = OfNode node true; messages = messages }

    a : Assembled
    a = record { register = register; taken = others ++ sight ∷ [] }

    old : View
    old = view_of_assembled a

    new : View
    new = view_of_assembled (record { register = record register { premise = false }; taken = others ++ broken ∷ [] })

    becomes : ◌≡◌ {A = Me ℕ View} (new, []) (with_broken_node old, [])
    becomes = sym (broken_view register others sight)

    heir : IsHeir old new
    heir = registrar_heir register.nodes register.callers (known_in register) (others ++ sight ∷ [])
        register.nodes register.callers (known_in (record register { premise = false })) (others ++ broken ∷ []) (are_broken others node messages)

    allowed : Allows IsKept slots id (old, []) word f (λ found m. m ≡ (with_broken_node old, []))
    allowed t (scene, lived, agrees, shows) len at fits =
        let (nodes, callers, known, differ, all) = shows.agrees id old at in
        let (others_differ, apart_last) = differ_before sight others differ in
        let (before, ((there, sent), standing)) = all_before sight (IsSeenIn scene) others all in
        let after = agrees_broken scene node agrees there in
        let out : is_among node.number (node.number ∷ scene.crashed) ≡ true = ap (λ b. b || is_among node.number scene.crashed) (eqb_same node.number node.number refl) in
        let last : IsSeenIn (with_break node.number scene) broken = ((there, sent), out) in (
          new,
          keeps_slots,
          tt,
          (
            with_break node.number scene,
            Lived.Breaks node.number lived after,
            after,
            shows_changed scene (with_break node.number scene) t.views id old new shows at heir (
              nodes,
              callers,
              knows_broken scene node.number (known_in register) known,
              differ_push others broken others_differ (still_away others node apart_last),
              All-push (IsSeenIn (with_break node.number scene)) others broken (all_still scene node others apart_last before) last,
            )
                (λ seat u apart e. still_broken scene node a (one_last sight others (OfNode node false) refl) u (λ one. apart (shows.apart seat id u old e at one)) (shows.agrees seat u e)),
          ),
          becomes,
        )

-- the same, where a seat shows that the actor is a node
pub break_of : (slots id word : ℕ) (me : Me ℕ View) (register : Register) (others : List Sight) (s : Sight) (f : ℕ → ℕ) → me ≡ (view_of_assembled (record { register = register; taken = others ++ s ∷ [] }), [])
    → s.actor ≡ OfNode (node_in s.actor) false → Allows IsKept slots id me word f (λ found m. m ≡ (with_broken_node me.0, me.1))
break_of slots id word me register others s f is node =
    break_as slots id word me register others (node_in s.actor) s.messages f
    (is ∙ ap (λ (actor : Actor). (view_of_assembled (record { register = register; taken = others ++ record { actor = actor; messages = s.messages } ∷ [] }), [])) node)

-- what the registrar's seat is then
pub broken_seats : (first second : Me ℕ View) (register : Register) (others : List Sight) (s : Sight) → first ≡ (view_of_assembled (record { register = register; taken = others ++ s ∷ [] }), [])
    → s.actor ≡ OfNode (node_in s.actor) false → second ≡ (with_broken_node first.0, first.1)
    → second ≡ (view_of_assembled (record { register = record register { premise = false }; taken = others ++ record s { actor = OfNode (node_in s.actor) true } ∷ [] }), [])
broken_seats first second register others s is node becomes =
    becomes ∙ ap (λ (m : Me ℕ View). (with_broken_node m.0, m.1)) is ∙ broken_view register others s
    ∙ ap (λ (actor : Actor). (view_of_assembled (record { register = record register { premise = false }; taken = others ++ record { actor = broken_actor actor; messages = s.messages } ∷ [] }), [])) node
