-- If the seats of all nodes were taken in, the ring is that of these nodes.
use Rattle.std.proofs.Common.{◌≡◌, ◌≢◌, ℕ, true, None, List, [], ◌∷◌, ⊎_elim, length, map, eqb, refl, sym, ap, ◌∙◌, subst, All}
use Rattle.std.proofs.lemmas.List.Elements.{All-contains, All-head, All-tail}
use Rattle.std.proofs.lemmas.Option.{none-some}
use Rattle.std.specs.Prelude.{IsTrue, Contains}
use Rattle.std.proofs.lemmas.List.{length-map, nil_from_length}
use Rattle.chord_map.proofs.Equal.{same_or_not, eqb_same, eqb_other}
use Rattle.chord_map.proofs.Lists.{Has, find_unless}
use Rattle.chord_model.specs.Node.{Node}
use Rattle.chord_model.specs.World.{node_at}
use Rattle.chord_ring.specs.Ring.{Members, is_member, IsPrincipal}
use Rattle.chord_ring.specs.Steps.{Ring}
use Rattle.chord_table.proofs.Counted.{AreSame, has_mapped, nodes_counted}
use Rattle.chord_table.proofs.Places.{one_members}
use Rattle.chord_table.proofs.Telling.{EachHolds}
use Rattle.chord_table.specs.Actors.{node_numbers}
use Rattle.chord_table.specs.Rings.{place_at, place_among, AreMembers, StandsOnRing}
use Rattle.chord_table.specs.Scenes.{Scene, Agrees, no_ring, place_of, place_in}
use Rattle.chord_table.specs.Seen.{Actor, OfNode, OfCaller, Sight}
use Rattle.chord_table.specs.Shown.{HoldsIn}
use Rattle.chord_table.specs.Views.{AllDiffer, IsSeenIn, IsTrueOfSome, Assembled, view_of_assembled, HasAllNodes, Knows, known_in, Stands, with_node, nodes_among}

-- where there is no node none was seen
none_seen : (scene : Scene) (taken : List Sight) → scene.world.nodes ≡ []
    → All (IsSeenIn scene) taken → nodes_among taken ≡ []
unfolding node_at
none_seen scene [] none all = refl
none_seen scene (sight ∷ rest) none all =
    by_kind sight.actor (All-head (IsSeenIn scene) sight rest all)
    (none_seen scene rest none (All-tail (IsSeenIn scene) sight rest all))
  where
    by_kind : (actor : Actor) → IsSeenIn scene (record { actor = actor; messages = sight.messages })
        → nodes_among rest ≡ [] → with_node actor (nodes_among rest) ≡ []
    by_kind (OfNode node out) ((there, sent), standing) empty =
        absurd (none-some node (sym (ap (node_at node.number) none) ∙ there))
    by_kind (OfCaller caller) seen empty = empty

-- a number that none of these nodes has is no node's
abbrev AreAll : Scene → ℕ → List Node → Type 0
AreAll scene number nodes =
    (Has (map (λ (n : Node). n.number) nodes) number → ⊥) → node_at number scene.world.nodes ≡ None

-- then what the ring has under the number is what the sights show
place_shown : (scene : Scene) (number : ℕ) (taken : List Sight) → All (IsSeenIn scene) taken
    → AreAll scene number (nodes_among taken)
    → place_in scene.crashed (node_at number scene.world.nodes) ≡ place_among number taken
place_shown scene number [] all none = ap (place_in scene.crashed) (none (λ h. h))
place_shown scene number (sight ∷ rest) all none =
    by_kind sight.actor (All-head (IsSeenIn scene) sight rest all) none
    (λ away. place_shown scene number rest (All-tail (IsSeenIn scene) sight rest all) away)
  where
    by_kind : (actor : Actor) → IsSeenIn scene (record { actor = actor; messages = sight.messages })
        → AreAll scene number (with_node actor (nodes_among rest))
        → (AreAll scene number (nodes_among rest)
        → place_in scene.crashed (node_at number scene.world.nodes) ≡ place_among number rest)
        → place_in scene.crashed (node_at number scene.world.nodes)
        ≡ place_at number actor (place_among number rest)
    by_kind (OfNode node out) ((there, sent), standing) none more = ⊎_elim
        (λ (same : node.number ≡ number).
        rw (eqb_same node.number number same)
        (ap (λ n. place_in scene.crashed (node_at n scene.world.nodes)) (sym same)
        ∙ ap (place_in scene.crashed) there ∙ ap (λ crashed. place_of crashed node) standing))
        (λ (apart : node.number ≢ number).
        rw (eqb_other node.number number apart)
        (more (λ away. none (λ has. ⊎_elim apart away has))))
        (same_or_not node.number number)
    by_kind (OfCaller caller) seen none more = more none

-- the nodes of a scene are those that the sights show, if these are as many
pub all_nodes : (scene : Scene) (a : Assembled) → node_numbers scene.world ≡ a.register.nodes
    → AllDiffer a.taken → All (IsSeenIn scene) a.taken → HasAllNodes a
    → AreSame scene.world.nodes (nodes_among a.taken)
all_nodes scene a nodes differ seen whole =
    nodes_counted scene a.taken differ seen
    (whole.nodes ∙ sym (ap length nodes) ∙ length-map scene.world.nodes (λ (n : Node). n.number))

-- then the ring of the scene has the members that the sights show
pub members_are : (scene : Scene) (a : Assembled) → Agrees scene
    → node_numbers scene.world ≡ a.register.nodes → Knows scene (known_in a.register)
    → AllDiffer a.taken → All (IsSeenIn scene) a.taken → HasAllNodes a
    → AreMembers a scene.ring.members
unfolding node_at
members_are scene a agrees nodes knows differ seen whole = record {
  counted = agrees.counted ∙ sym agrees.named ∙ ap length knows.ids;
  links = λ number. agrees.members number ∙ place_shown scene number a.taken seen (nobody number);
}
  where
    same : AreSame scene.world.nodes (nodes_among a.taken)
    same = all_nodes scene a nodes differ seen whole

    nobody : (number : ℕ) → AreAll scene number (nodes_among a.taken)
    nobody number away = find_unless (λ (n : Node). eqb n.number number) scene.world.nodes
        (λ node there. eqb_other node.number number
        (λ is. away (subst (Has (map (λ (n : Node). n.number) (nodes_among a.taken))) is
        (has_mapped (λ (n : Node). n.number) (nodes_among a.taken) node (same.covers node there)))))

-- and no others
pub members_same : (scene : Scene) (a : Assembled) → Agrees scene
    → node_numbers scene.world ≡ a.register.nodes
    → Knows scene (known_in a.register) → AllDiffer a.taken → All (IsSeenIn scene) a.taken
    → HasAllNodes a → (members : Members) → AreMembers a members → members ≡ scene.ring.members
members_same scene a agrees nodes knows differ seen whole members are =
    one_members a members scene.ring.members are
    (members_are scene a agrees nodes knows differ seen whole)

-- ---- what a look proves

-- the members are one ring
pub ring_stands : (scene : Scene) (a : Assembled) → HoldsIn scene
    → node_numbers scene.world ≡ a.register.nodes
    → Knows scene (known_in a.register) → AllDiffer a.taken → All (IsSeenIn scene) a.taken
    → HasAllNodes a → a.register.premise ≡ true → nodes_among a.taken ≢ [] → (members : Members)
    → AreMembers a members → StandsOnRing members
ring_stands scene a scene_holds nodes knows differ seen whole holds some members are = ⊎_elim
    (λ (none : scene.ring ≡ no_ring).
    let empty = nil_from_length scene.world.nodes
    (sym agrees.counted ∙ ap (λ (r : Ring). length r.members) none) in
    absurd (some (none_seen scene a.taken empty seen)))
    (λ stands. subst StandsOnRing
    (sym (members_same scene a agrees nodes knows differ seen whole members are)) stands)
    (scene_holds.one_ring (knows.premise ∙ holds))
  where
    agrees : Agrees scene
    agrees = scene_holds.agrees

pub ring_told : (a : Assembled) → IsTrueOfSome (view_of_assembled a) → EachHolds → HasAllNodes a
    → nodes_among a.taken ≢ []
    → a.register.premise ≡ true → (members : Members) → AreMembers a members → StandsOnRing members
ring_told a (scene, lived, agrees, (nodes, callers, knows, differ, seen)) each whole some holds =
    ring_stands scene a (each scene lived agrees) nodes knows differ seen whole holds some

-- and each member that the register has as a principal is one
pub principals_told : (a : Assembled) → IsTrueOfSome (view_of_assembled a) → HasAllNodes a
    → a.register.premise ≡ true
    → (members : Members) → AreMembers a members
    → (number : ℕ) → Contains a.register.principals number → IsTrue (is_member members number)
    → IsPrincipal members number
principals_told a (scene, lived, agrees, truth) whole holds members are number noted member =
    let (nodes, callers, knows, differ, seen) = truth in
    let same : members ≡ scene.ring.members =
    members_same scene a agrees nodes knows differ seen whole members are in
    let Remains : ℕ → Type 0 = Stands scene.premise scene.ring in
    let stands : Remains number =
    All-contains Remains a.register.principals number knows.principals noted in
    subst (λ (ms : Members). IsPrincipal ms number) (sym same)
    (stands.1 (knows.premise ∙ holds)
    (subst (λ (ms : Members). IsTrue (is_member ms number)) same member))
