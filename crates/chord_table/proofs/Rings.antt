-- The ring of a scene, after each kind of step.
use Rattle.std.proofs.Common.{◌≡◌, ◌≢◌, ℕ, zero, suc, ◌+◌, ◌<◌, ◌≤◌, ◌⊎◌, inl, inr, ⊎_elim, Bool, true, false, Option, Some, None, List, [], ◌∷◌, ◌++◌, length, set, refl, sym, ap, ◌∙◌, subst, arith}
use Rattle.std.specs.Prelude.{is_some, IsTrue}
use Rattle.std.proofs.lemmas.Bool.{cases_lt, true≢false}
use Rattle.std.proofs.lemmas.List.{get_or_past, get_or-set_same, get_or-set_other, length-set, length-append, nil_from_length}
use Rattle.std.proofs.lemmas.Option.{none-some}
use Rattle.chord_links.specs.NodeLinks.{NodeLinks, alone}
use Rattle.chord_map.proofs.Equal.{same_or_not, eqb_same, eqb_other}
use Rattle.chord_model.proofs.Nodes.{node_at_push_other, node_at_push_same}
use Rattle.chord_model.proofs.Numbered.{nodes_by}
use Rattle.chord_model.specs.Node.{Node, founder}
use Rattle.chord_model.specs.World.{World, Reached, node_at, put_node}
use Rattle.chord_model.specs.World.Run.{Stays, Goes_on}
use Rattle.chord_ring.specs.declared.ring_step.RingStep.{RingStep}
use Rattle.chord_ring.specs.declared.ring_step.RingStep.TheVariants.{Join, Stabilise, Candidate, DropDead, Rectify}
use Rattle.chord_ring.specs.Ring.{Members, links_of, is_member, CanDepart}
use Rattle.chord_ring.specs.Steps.{Ring, Step, IsReached, is_founded, after_step, after_departure, with_links, founded_ring, ring_without}
use Rattle.chord_table.specs.Scenes.{Scene, Lived, Agrees, RingEffect, no_ring, place_of, place_in, is_among}

-- ---- what a list of steps leads to

pub lived_reached : (scene : Scene) → Lived scene → Reached scene.world
lived_reached _ Lived.Begins = Stays
lived_reached _ (Lived.Goes_on lived step same held effect agrees) = Goes_on (lived_reached _ lived) step
lived_reached _ (Lived.Crashes number lived can agrees) = lived_reached _ lived
lived_reached _ (Lived.Breaks number lived agrees) = lived_reached _ lived

-- before there is a node there is no ring; from then on, if it allowed each crash, the ring is one
-- that steps of the ring and departures lead to
pub no_member : (old : Ring) (node : ℕ) (links : NodeLinks) → old ≡ no_ring → links_of old.members node ≡ Some links → ⊥
no_member old node links none is = none-some links (sym (ap (λ (r : Ring). links_of r.members node) none ∙ get_or_past [] node None (omega arith)) ∙ is)

pub no_step : (old new : Ring) (step : RingStep) → old ≡ no_ring → Step old step new → ⊥
no_step old new (Join id pred) none is = no_member old pred is.links none is.is_its
no_step old new (Stabilise node head) none is = no_member old node is.links none is.is_its
no_step old new (Candidate node peer) none is = no_member old node is.links none is.is_its
no_step old new (DropDead node) none is = no_member old node is.links none is.is_its
no_step old new (Rectify node notifier) none is = no_member old node is.links none is.is_its

pub no_departure : (old : Ring) (node : ℕ) → old ≡ no_ring → CanDepart old.members node → ⊥
no_departure old node none can =
    let here : IsTrue (is_member [] node) = subst (λ (r : Ring). IsTrue (is_member r.members node)) none can.0 in
    let past : links_of [] node ≡ None = get_or_past [] node None (omega arith) in
    true≢false (sym here ∙ ap (λ (l : Option NodeLinks). is_some l) past)

effect_reaches : (old new : Ring) → RingEffect old new → (old ≡ no_ring) ⊎ IsReached old → (new ≡ no_ring) ⊎ IsReached new
effect_reaches old _ RingEffect.Same h = h
effect_reaches old _ (RingEffect.Founded id r within positive none) h = inr (is_founded id r within positive)
effect_reaches old new (RingEffect.Stepped step is) (inr reached) = inr (after_step step reached is)
effect_reaches old new (RingEffect.Stepped step is) (inl none) = absurd (no_step old new step none is)
effect_reaches old _ (RingEffect.Departed node can) (inr reached) = inr (after_departure node reached can)
effect_reaches old _ (RingEffect.Departed node can) (inl none) = absurd (no_departure old node none can)

crash_reaches : (old : Ring) (node : ℕ) → CanDepart old.members node → (old ≡ no_ring) ⊎ IsReached old → (ring_without old node ≡ no_ring) ⊎ IsReached (ring_without old node)
crash_reaches old node can (inr reached) = inr (after_departure node reached can)
crash_reaches old node can (inl none) = absurd (no_departure old node none can)

pub lived_ring : (scene : Scene) → Lived scene → scene.premise ≡ true → (scene.ring ≡ no_ring) ⊎ IsReached scene.ring
lived_ring _ Lived.Begins holds = inl refl
lived_ring _ (Lived.Goes_on {old = old} {new = new} lived step same held effect agrees) holds = effect_reaches old.ring new.ring effect (lived_ring old lived (sym held ∙ holds))
lived_ring _ (Lived.Crashes {old = old} number lived can agrees) holds = crash_reaches old.ring number can (lived_ring old lived holds)
lived_ring _ (Lived.Breaks number lived agrees) holds = absurd (true≢false (sym holds))

-- ---- nodes

-- a put leaves their number as it was
length_put : (node : Node) (nodes : List Node) → length (put_node node nodes) ≡ length nodes
unfolding put_node
length_put node [] = refl
length_put node (other ∷ nodes) =
    ⊎_elim
    (λ (same : other.number ≡ node.number). rw (eqb_same other.number node.number same) refl)
    (λ (apart : other.number ≢ node.number). rw (eqb_other other.number node.number apart) (let rest = length_put node nodes in omega arith))
    (same_or_not other.number node.number)

-- where there is no node after a put there was none before
none_before : (new old : Node) (nodes : List Node) → node_at new.number nodes ≡ Some old → (number : ℕ) → node_at number (put_node new nodes) ≡ None → node_at number nodes ≡ None
none_before new old nodes here number none =
    ⊎_elim
    (λ (same : number ≡ new.number).
    absurd (none-some new (sym (subst (λ n. node_at n (put_node new nodes) ≡ None) same none) ∙ nodes_by.put_same new nodes old here)))
    (λ (apart : number ≢ new.number). sym (nodes_by.put_apart new nodes number apart) ∙ none)
    (same_or_not number new.number)

-- a member has an index in the list
pub member_within : (members : Members) (number : ℕ) (links : NodeLinks) → links_of members number ≡ Some links → number < length members
member_within members number links is =
    ⊎_elim
    (λ (past : length members ≤ number). absurd (none-some links (sym (get_or_past members number None past) ∙ is)))
    (λ (within : number < length members). within)
    (⊎_elim (λ (a : number < length members). inr a) (λ (b : length members ≤ number). inl b) (cases_lt number (length members)))

-- ---- an event of a node

-- the ring has of the node what it had
pub agrees_kept : (world : World) (crashed : List ℕ) (ring : Ring) (premise : Bool) (old new : Node) (after : World) → Agrees (record { world = world; crashed = crashed; premise = premise; ring = ring })
    → node_at new.number world.nodes ≡ Some old → after.nodes ≡ put_node new world.nodes → new.number ≡ old.number → (out : Bool) → is_among old.number crashed ≡ out
    → place_of out new ≡ place_of out old → Agrees (record { world = after; crashed = crashed; premise = premise; ring = ring })
agrees_kept world crashed ring premise old new after agrees here nodes same out standing keeps = record {
  members = λ number. subst (λ (ns : List Node). links_of ring.members number ≡ place_in crashed (node_at number ns)) (sym nodes) (members number);
  counted = agrees.counted ∙ sym (ap length nodes ∙ length_put new world.nodes);
  named = agrees.named ∙ sym (ap length nodes ∙ length_put new world.nodes);
  known = λ number none. agrees.known number (none_before new old world.nodes here number (ap (node_at number) (sym nodes) ∙ none));
}
  where
    standing_new : is_among new.number crashed ≡ out
    standing_new = ap (λ n. is_among n crashed) same ∙ standing

    place : place_in crashed (Some new) ≡ place_in crashed (Some old)
    place = ap (λ o. place_of o new) standing_new ∙ keeps ∙ sym (ap (λ o. place_of o old) standing)

    members : (number : ℕ) → links_of ring.members number ≡ place_in crashed (node_at number (put_node new world.nodes))
    members number = ⊎_elim
        (λ (e : number ≡ new.number).
        subst (λ n. links_of ring.members n ≡ place_in crashed (node_at n (put_node new world.nodes))) (sym e)
        (agrees.members new.number ∙ ap (place_in crashed) here ∙ sym place ∙ sym (ap (place_in crashed) (nodes_by.put_same new world.nodes old here))))
        (λ (e : number ≢ new.number). agrees.members number ∙ sym (ap (place_in crashed) (nodes_by.put_apart new world.nodes number e)))
        (same_or_not number new.number)

-- the node has other links, and the ring has them
pub agrees_relinked : (world : World) (crashed : List ℕ) (ring : Ring) (premise : Bool) (old new : Node) (links : NodeLinks) (after : World) → Agrees (record { world = world; crashed = crashed; premise = premise; ring = ring })
    → node_at new.number world.nodes ≡ Some old → after.nodes ≡ put_node new world.nodes → new.number ≡ old.number → is_among old.number crashed ≡ false
    → (before : NodeLinks) → place_of false old ≡ Some before → place_of false new ≡ Some links
    → Agrees (record { world = after; crashed = crashed; premise = premise; ring = with_links ring old.number links })
agrees_relinked world crashed ring premise old new links after agrees here nodes same standing before was is = record {
  members = λ number. subst (λ (ns : List Node). links_of (set ring.members old.number (Some links)) number ≡ place_in crashed (node_at number ns)) (sym nodes) (members number);
  counted = length-set ring.members old.number (Some links) ∙ agrees.counted ∙ sym (ap length nodes ∙ length_put new world.nodes);
  named = agrees.named ∙ sym (ap length nodes ∙ length_put new world.nodes);
  known = λ number none. agrees.known number (none_before new old world.nodes here number (ap (node_at number) (sym nodes) ∙ none));
}
  where
    standing_new : is_among new.number crashed ≡ false
    standing_new = ap (λ n. is_among n crashed) same ∙ standing

    here_old : links_of ring.members old.number ≡ Some before
    here_old = subst (λ n. links_of ring.members n ≡ Some before) same
        (agrees.members new.number ∙ ap (place_in crashed) here ∙ ap (λ out. place_of out old) standing ∙ was)

    within : old.number < length ring.members
    within = member_within ring.members old.number before here_old

    members : (number : ℕ) → links_of (set ring.members old.number (Some links)) number ≡ place_in crashed (node_at number (put_node new world.nodes))
    members number = ⊎_elim
        (λ (e : number ≡ new.number).
        subst (λ n. links_of (set ring.members old.number (Some links)) n ≡ place_in crashed (node_at n (put_node new world.nodes))) (sym e)
        (subst (λ n. links_of (set ring.members old.number (Some links)) n ≡ Some links) (sym same) (get_or-set_same ring.members old.number (Some links) None within)
        ∙ sym (ap (place_in crashed) (nodes_by.put_same new world.nodes old here) ∙ ap (λ out. place_of out new) standing_new ∙ is)))
        (λ (e : number ≢ new.number).
        get_or-set_other ring.members old.number number (Some links) None (λ (d : number ≡ old.number). e (d ∙ sym same))
        ∙ agrees.members number ∙ sym (ap (place_in crashed) (nodes_by.put_apart new world.nodes number e)))
        (same_or_not number new.number)

-- the ring has nothing under a number that was taken out
pub none_set : (members : Members) (place : ℕ) → links_of (set members place None) place ≡ None
none_set [] zero = refl
none_set [] (suc place) = refl
none_set (member ∷ members) zero = refl
none_set (member ∷ members) (suc place) = none_set members place

-- the node is gone, and the ring has it no more
pub agrees_retired : (world : World) (crashed : List ℕ) (ring : Ring) (premise : Bool) (old new : Node) (after : World)
    → Agrees (record { world = world; crashed = crashed; premise = premise; ring = ring }) → node_at new.number world.nodes ≡ Some old → after.nodes ≡ put_node new world.nodes
    → ((out : Bool) → place_of out new ≡ None) → Agrees (record { world = after; crashed = crashed; premise = premise; ring = ring_without ring new.number })
agrees_retired world crashed ring premise old new after agrees here nodes gone = record {
  members = λ number. subst (λ (ns : List Node). links_of (set ring.members new.number None) number ≡ place_in crashed (node_at number ns)) (sym nodes) (members number);
  counted = length-set ring.members new.number None ∙ agrees.counted ∙ sym (ap length nodes ∙ length_put new world.nodes);
  named = agrees.named ∙ sym (ap length nodes ∙ length_put new world.nodes);
  known = λ number none. agrees.known number (none_before new old world.nodes here number (ap (node_at number) (sym nodes) ∙ none));
}
  where
    members : (number : ℕ) → links_of (set ring.members new.number None) number ≡ place_in crashed (node_at number (put_node new world.nodes))
    members number = ⊎_elim
        (λ (e : number ≡ new.number).
        subst (λ n. links_of (set ring.members new.number None) n ≡ place_in crashed (node_at n (put_node new world.nodes))) (sym e)
        (none_set ring.members new.number ∙ sym (ap (place_in crashed) (nodes_by.put_same new world.nodes old here) ∙ gone (is_among new.number crashed))))
        (λ (e : number ≢ new.number).
        get_or-set_other ring.members new.number number None None e ∙ agrees.members number ∙ sym (ap (place_in crashed) (nodes_by.put_apart new world.nodes number e)))
        (same_or_not number new.number)

-- ---- a new actor

-- before there is a node there is no ring
pub no_ring_yet : (scene : Scene) → Agrees scene → scene.world.nodes ≡ [] → scene.ring ≡ no_ring
no_ring_yet scene agrees none =
    let members : scene.ring.members ≡ [] = nil_from_length scene.ring.members (agrees.counted ∙ ap length none) in
    let ids : scene.ring.ids ≡ [] = nil_from_length scene.ring.ids (agrees.named ∙ ap length none) in
    λ i. record { ids = ids i; members = members i }

-- the first node, whose links name no other
abbrev pub first_node : ℕ → ℕ → ℕ → Node
first_node id r limit = founder (alone (record { number = 0; id = record { number = id } }) r) limit

other_none : (node : Node) (number : ℕ) → node.number ≢ number → node_at number (node ∷ []) ≡ None
unfolding node_at
other_none node number apart = rw (eqb_other node.number number apart) refl

pub agrees_founded : (scene : Scene) (id r limit : ℕ) → Agrees scene → scene.world.nodes ≡ []
    → Agrees (record { world = record scene.world { nodes = scene.world.nodes ++ first_node id r limit ∷ [] }; crashed = scene.crashed; premise = scene.premise; ring = founded_ring id r })
unfolding node_at
agrees_founded scene id r limit agrees none =
    subst (λ (ns : List Node). Agrees (record { world = record scene.world { nodes = ns ++ first_node id r limit ∷ [] }; crashed = scene.crashed; premise = scene.premise; ring = founded_ring id r })) (sym none)
    (record { members = members; counted = refl; named = refl; known = known })
  where
    nobody : (number : ℕ) → is_among number scene.crashed ≡ false
    nobody number = agrees.known number (ap (node_at number) none)

    members : (number : ℕ) → links_of (founded_ring id r).members number ≡ place_in scene.crashed (node_at number (first_node id r limit ∷ []))
    members zero = sym (ap (λ out. place_of out (first_node id r limit)) (nobody 0))
    members (suc number) = let apart : 0 ≢ suc number = omega arith in sym (ap (place_in scene.crashed) (other_none (first_node id r limit) (suc number) apart))

    known : (number : ℕ) → node_at number (first_node id r limit ∷ []) ≡ None → is_among number scene.crashed ≡ false
    known number none = nobody number

pub push_same : (members : Members) (x : Option NodeLinks) → links_of (members ++ x ∷ []) (length members) ≡ x
push_same [] x = refl
push_same (m ∷ members) x = push_same members x

pub push_other : (members : Members) (x : Option NodeLinks) (number : ℕ) → number ≢ length members → links_of (members ++ x ∷ []) number ≡ links_of members number
push_other [] x zero apart = absurd (apart refl)
push_other [] x (suc number) apart = refl
push_other (m ∷ members) x zero apart = refl
push_other (m ∷ members) x (suc number) apart = push_other members x number (λ e. apart (ap suc e))

-- a node joined
pub agrees_joined : (scene : Scene) (new : Node) (links : NodeLinks) → Agrees scene → node_at new.number scene.world.nodes ≡ None → new.number ≡ length scene.world.nodes
    → place_of false new ≡ Some links → (id : ℕ)
    → Agrees (record { world = record scene.world { nodes = scene.world.nodes ++ new ∷ [] }; crashed = scene.crashed; premise = scene.premise; ring = record { ids = scene.ring.ids ++ id ∷ []; members = scene.ring.members ++ Some links ∷ [] } })
agrees_joined scene new links agrees none next is id = record {
  members = members;
  counted = length-append scene.ring.members (Some links ∷ []) ∙ ap (λ n. n + 1) agrees.counted ∙ sym (length-append scene.world.nodes (new ∷ []));
  named = length-append scene.ring.ids (id ∷ []) ∙ ap (λ n. n + 1) agrees.named ∙ sym (length-append scene.world.nodes (new ∷ []));
  known = λ number gone. agrees.known number (none_earlier number gone);
}
  where
    at : new.number ≡ length scene.ring.members
    at = next ∙ sym agrees.counted

    none_earlier : (number : ℕ) → node_at number (scene.world.nodes ++ new ∷ []) ≡ None → node_at number scene.world.nodes ≡ None
    none_earlier number gone = ⊎_elim
        (λ (same : number ≡ new.number). ap (λ n. node_at n scene.world.nodes) same ∙ none)
        (λ (apart : number ≢ new.number). sym (node_at_push_other number scene.world.nodes new (λ e. apart (sym e))) ∙ gone)
        (same_or_not number new.number)

    members : (number : ℕ) → links_of (scene.ring.members ++ Some links ∷ []) number ≡ place_in scene.crashed (node_at number (scene.world.nodes ++ new ∷ []))
    members number = ⊎_elim
        (λ (same : number ≡ new.number).
        subst (λ n. links_of (scene.ring.members ++ Some links ∷ []) n ≡ place_in scene.crashed (node_at n (scene.world.nodes ++ new ∷ []))) (sym same)
        (ap (λ n. links_of (scene.ring.members ++ Some links ∷ []) n) at ∙ push_same scene.ring.members (Some links)
        ∙ sym (ap (place_in scene.crashed) (node_at_push_same new.number scene.world.nodes new refl none) ∙ ap (λ out. place_of out new) (agrees.known new.number none) ∙ is)))
        (λ (apart : number ≢ new.number).
        push_other scene.ring.members (Some links) number (λ e. apart (e ∙ sym at)) ∙ agrees.members number
        ∙ sym (ap (place_in scene.crashed) (node_at_push_other number scene.world.nodes new (λ e. apart (sym e)))))
        (same_or_not number new.number)

-- a member is a node
pub member_node : (scene : Scene) → Agrees scene → (number : ℕ) → IsTrue (is_member scene.ring.members number) → (node : Node) × (node_at number scene.world.nodes ≡ Some node)
member_node scene agrees number member = found (node_at number scene.world.nodes) refl
  where
    found : (o : Option Node) → node_at number scene.world.nodes ≡ o → (node : Node) × (node_at number scene.world.nodes ≡ Some node)
    found (Some node) e = (node, e)
    found None e =
        let none : links_of scene.ring.members number ≡ None = agrees.members number ∙ ap (place_in scene.crashed) e in
        absurd (true≢false (sym member ∙ ap (λ (l : Option NodeLinks). is_some l) none))
