-- A node retires, while the registrar's seat has those of all nodes.
use Rattle.std.proofs.Common.{◌≡◌, ◌≢◌, ℕ, eqb, Bool, true, false, List, [], ◌∷◌, map, Some, None, refl, sym, ap, ◌∙◌, subst, ⊎_elim, Contains, All}
use Rattle.std.proofs.lemmas.List.Elements.{All-contains, All-nil, All-cons, All-head, All-tail}
use Rattle.std.specs.Prelude.{is_some}
use Rattle.std.proofs.lemmas.Option.{same_Some}
use Rattle.atomic_table.specs.Table.{Me, Allows}
use Rattle.atomic_table.specs.Table.{keeps as keeps_slots}
use Rattle.chord_map.proofs.Equal.{same_or_not, eqb_same, eqb_other}
use Rattle.chord_model.specs.Node.{Node, NodeStep}
use Rattle.chord_model.specs.World.{node_at}
use Rattle.chord_ring.specs.Ring.{Members, CanDepart}
use Rattle.chord_ring.specs.Steps.{Ring, ring_without}
use Rattle.chord_table.proofs.Events.{scene_after, all_sent_after, true_after}
use Rattle.chord_table.proofs.Owning.{are_changed, differ_changed, registrar_heir, seat_heir}
use Rattle.chord_table.proofs.Places.{placed_one}
use Rattle.chord_table.proofs.Rings.{agrees_retired}
use Rattle.chord_table.proofs.Showing.{IsHeir, shows_changed}
use Rattle.chord_table.proofs.Stays.{effect_stays, knows_on}
use Rattle.chord_table.proofs.WholeRing.{members_same}
use Rattle.chord_table.proofs.Worlds.{event_steps, there_after, others_after, nodes_after, callers_after}
use Rattle.chord_table.specs.Actors.{AreOne, Event}
use Rattle.chord_table.specs.Rings.{AreMembers}
use Rattle.chord_table.specs.Scenes.{Scene, Lived, Agrees, RingEffect, place_of, is_among}
use Rattle.chord_table.specs.Seen.{Actor, OfNode, OfCaller, Sight, View, Shown}
use Rattle.chord_table.specs.Views.{IsSeenIn, IsKept, Assembled, known_in, view_of_assembled, HasAllNodes, gone_node, gone_if, retire_actor, retire_sight, with_retired_node, MayRetire}

-- ---- the sights

same_number : (b : Bool) (node : Node) → (gone_if b node).number ≡ node.number
same_number true node = refl
same_number false node = refl

same_actor : (number : ℕ) (actor other : Actor) → AreOne (retire_actor number actor) other → AreOne actor other
same_actor number (OfNode node out) (OfNode other away) one = sym (same_number (eqb number node.number) node) ∙ one
same_actor number (OfCaller caller) (OfCaller other) one = one
same_actor number (OfNode node out) (OfCaller other) one = one
same_actor number (OfCaller caller) (OfNode other away) one = one

-- the scene once the node is gone
abbrev after_retirement : Scene → Node → Scene
after_retirement scene node = scene_after scene (OfNode (gone_node node) false) None None (ring_without scene.ring node.number)

seen_retired : (scene : Scene) (node : Node) (sight : Sight) → node_at node.number scene.world.nodes ≡ Some node → IsSeenIn scene sight → IsSeenIn (after_retirement scene node) (retire_sight node.number sight)
seen_retired scene node sight here seen = by_kind sight.actor seen
  where
    next : Scene
    next = after_retirement scene node

    sent : All (Contains scene.world.sent) sight.messages → All (Contains next.world.sent) sight.messages
    sent all = all_sent_after scene.world (OfNode (gone_node node) false) None None sight.messages all

    by_kind : (actor : Actor) → IsSeenIn scene (record { actor = actor; messages = sight.messages })
        → IsSeenIn next (record { actor = retire_actor node.number actor; messages = sight.messages })
    by_kind (OfNode other out) ((there, all), standing) = ⊎_elim
        (λ (same : node.number ≡ other.number).
        let is : node ≡ other = same_Some node other (sym here ∙ ap (λ n. node_at n scene.world.nodes) same ∙ there) in
        subst (λ b. IsSeenIn next (record { actor = OfNode (gone_if b other) out; messages = sight.messages })) (sym (eqb_same node.number other.number same))
        (subst (λ (n : Node). IsSeenIn next (record { actor = OfNode (gone_node n) out; messages = sight.messages })) is
        ((there_after scene.world (OfNode node false) (OfNode (gone_node node) false) None None refl here, sent all), ap (λ n. is_among n scene.crashed) same ∙ standing)))
        (λ (apart : node.number ≢ other.number).
        subst (λ b. IsSeenIn next (record { actor = OfNode (gone_if b other) out; messages = sight.messages })) (sym (eqb_other node.number other.number apart))
        ((others_after scene.world (OfNode (gone_node node) false) (OfNode other out) None None (λ one. apart (sym one)) there, sent all), standing))
        (same_or_not node.number other.number)
    by_kind (OfCaller caller) ((there, all), standing) =
        ((others_after scene.world (OfNode (gone_node node) false) (OfCaller caller) None None (λ h. h) there, sent all), standing)

all_retired : (scene : Scene) (node : Node) (taken : List Sight) → node_at node.number scene.world.nodes ≡ Some node → All (IsSeenIn scene) taken
    → All (IsSeenIn (after_retirement scene node)) (map (retire_sight node.number) taken)
all_retired scene node [] here all = All-nil (IsSeenIn (after_retirement scene node))
all_retired scene node (sight ∷ rest) here all =
    All-cons (IsSeenIn (after_retirement scene node)) (retire_sight node.number sight) (map (retire_sight node.number) rest)
    (seen_retired scene node sight here (All-head (IsSeenIn scene) sight rest all)) (all_retired scene node rest here (All-tail (IsSeenIn scene) sight rest all))

-- ---- a node retires

gone_place : (node : Node) (out : Bool) → place_of out (gone_node node) ≡ None
gone_place node true = refl
gone_place node false = refl

retire_as : (slots id word : ℕ) (me : Me ℕ View) (a : Assembled) (picked : ℕ) (may : MayRetire a.taken picked) (f : ℕ → ℕ)
    → me ≡ (view_of_assembled a, []) → HasAllNodes a
    → (members : Members) × AreMembers a members × CanDepart members may.node.number
    → Allows IsKept slots id me word f (λ found m. m ≡ (with_retired_node may.node.number me.0, me.1))
retire_as slots id word me a picked may f is whole (members, are, can) =
    subst (λ (m : Me ℕ View). Allows IsKept slots id m word f (λ found w. w ≡ (with_retired_node node.number m.0, m.1))) (sym is) allowed
  where
    node : Node
    node = may.node

    old : View
    old = view_of_assembled a

    new : View
    new = view_of_assembled (record a { taken = map (retire_sight node.number) a.taken })

    heir : IsHeir old new
    heir = registrar_heir a.register.nodes a.register.callers (known_in a.register) a.taken
        a.register.nodes a.register.callers (known_in a.register) (map (retire_sight node.number) a.taken)
        (are_changed (retire_actor node.number) (same_actor node.number) a.taken)

    -- who owns what the node's seat shows owns what the registrar's shows
    owned : IsHeir old (Shown (OfNode node false) [])
    owned = seat_heir a.register.nodes a.register.callers (known_in a.register) a.taken (OfNode node false) []
        (placed_one a.taken node (sym (ap is_some (are.links node.number)) ∙ can.0))

    event : Event (OfNode node false) None (OfNode (gone_node node) false) None None
    event = Event.Acts (NodeStep.Retires may.leaving may.nothing may.empty)

    allowed : Allows IsKept slots id (old, []) word f (λ found m. m ≡ (new, []))
    allowed t (scene, lived, agrees, shows) len at fits =
        let (nodes, callers, named, differ, all) = shows.agrees id old at in
        let leaves : CanDepart scene.ring.members node.number =
        subst (λ (ms : Members). CanDepart ms node.number) (members_same scene a agrees nodes named differ all whole members are) can in
        let sight : Sight = record { actor = OfNode node false; messages = may.messages } in
        let here : node_at node.number scene.world.nodes ≡ Some node =
        (All-contains (IsSeenIn scene) a.taken sight all may.there).0.0 in
        let ring : Ring = ring_without scene.ring node.number in
        let next : Scene = after_retirement scene node in
        let after : Agrees next = agrees_retired scene.world scene.crashed scene.ring scene.premise node (gone_node node) next.world agrees here refl (gone_place node) in
        let stays = effect_stays scene ring lived (RingEffect.Departed node.number leaves) in (
          new,
          keeps_slots,
          tt,
          (
            next,
            Lived.Goes_on lived (event_steps scene.world (OfNode node false) (OfNode (gone_node node) false) None None None here tt event) refl refl (RingEffect.Departed node.number leaves) after,
            after,
            shows_changed scene next t.views id old new shows at heir (
              nodes_after scene.world (OfNode (gone_node node) false) None None ∙ nodes,
              callers_after scene.world (OfNode (gone_node node) false) None None ∙ callers,
              knows_on scene next (known_in a.register) refl refl stays named,
              differ_changed (retire_actor node.number) (same_actor node.number) a.taken differ,
              all_retired scene node a.taken here all,
            )
                (λ seat u apart e. true_after scene (OfNode node false) (OfNode (gone_node node) false) [] None None ring refl stays refl tt here u
                (λ one. apart (shows.apart seat id u old e at (owned.right u one))) (shows.agrees seat u e)),
          ),
          refl,
        )

-- the same, where the proof picked the number
pub retire_of : (slots id word : ℕ) (me : Me ℕ View) (a : Assembled) (number picked : ℕ) (f : ℕ → ℕ)
    → me ≡ (view_of_assembled a, []) → number ≡ picked → HasAllNodes a → MayRetire a.taken number
    → (members : Members) × AreMembers a members × CanDepart members number
    → Allows IsKept slots id me word f (λ found m. m ≡ (with_retired_node picked me.0, me.1))
retire_of slots id word me a number picked f is own whole may can =
    subst (λ n. Allows IsKept slots id me word f (λ found m. m ≡ (with_retired_node n me.0, me.1))) (sym may.numbered ∙ own)
    (retire_as slots id word me a number may f is whole
    (subst (λ n. (members : Members) × AreMembers a members × CanDepart members n) may.numbered can))
