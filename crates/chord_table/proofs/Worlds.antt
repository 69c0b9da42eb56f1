-- Worlds after an event, or with a new actor.
use Rattle.std.proofs.Common.{◌≡◌, ◌≢◌, ◌<◌, ◌^◌, ℕ, false, eqb, length, Option, Some, None, List, [], ◌∷◌, ◌++◌, map, Contains, refl, sym, ap, ◌∙◌, subst}
use Rattle.std.proofs.lemmas.List.Elements.{Contains-append_left}
use Rattle.std.proofs.lemmas.Option.{none-some}
use Rattle.chord_caller.specs.Caller.{Caller}
use Rattle.chord_map.proofs.Finding.{find_push_hit}
use Rattle.chord_model.proofs.CallerLemmas.{caller_left}
use Rattle.chord_model.proofs.Nodes.{node_at_push_other, node_at_push_same}
use Rattle.chord_model.specs.declared.message.Message.{Message}
use Rattle.chord_links.specs.NodeLinks.{NodeLinks, alone}
use Rattle.chord_links.specs.declared.peer.Peer.{Peer}
use Rattle.chord_ring.specs.declared.ring_step.RingStep.TheVariants.{Join}
use Rattle.chord_ring.specs.Ring.{links_of}
use Rattle.chord_table.proofs.Relinks.{placed}
use Rattle.chord_model.specs.Node.{Node, newborn}
use Rattle.chord_ring.specs.Steps.{Ring, Joins, joined_links, founded_ring}
use Rattle.chord_model.specs.World.{World, WorldStep, WasSent, node_at, caller_at}
use Rattle.chord_map.proofs.Equal.{eqb_same}
use Rattle.chord_map.specs.declared.done.Done.{Done}
use Rattle.chord_table.proofs.Numbers.{absent, node_put, caller_put}
use Rattle.chord_table.specs.Actors.{IsThere, AreOne, Event, world_after, world_with, node_numbers, caller_numbers}
use Rattle.chord_table.specs.Seen.{Actor, OfNode, OfCaller}
use Rattle.chord_table.proofs.Rings.{first_node, no_ring_yet, agrees_founded, agrees_joined}
use Rattle.chord_table.specs.Scenes.{Scene, Agrees, RingEffect, bare, place_of, place_in}
use Rattle.chord_table.specs.Views.{IsTrueOf, IsStanding, IsSeenIn, Register, Assembled, view_of_assembled, MayEnter, MayJoin}
use Rattle.chord_model.proofs.Numbered.{callers_by, nodes_by}

-- ---- an event

pub event_steps : (world : World) (old new : Actor) (taken sent : Option Message) (call : Option Done) → IsThere world old → WasSent world.sent taken → Event old taken new sent call
    → WorldStep world (world_after world new sent call)
event_steps world _ _ _ _ _ there was (Event.Acts {old = old} {new = new} {taken = taken} {sent = sent} {done = call} step) =
    WorldStep.Acts old.number old new taken sent call there was step
event_steps world _ _ _ _ _ there was (Event.Calls {old = old} {new = new} {taken = taken} {sent = sent} step) =
    WorldStep.Calls old.number old new taken sent there was step

-- after an event the world has the actor in its new state
pub there_after : (world : World) (old new : Actor) (sent : Option Message) (call : Option Done) → AreOne old new → IsThere world old → IsThere (world_after world new sent call) new
there_after world (OfNode old crashed) (OfNode new out) sent call same there =
    nodes_by.put_same new world.nodes old (subst (λ n. node_at n world.nodes ≡ Some old) same there)
there_after world (OfCaller old) (OfCaller new) sent call same there =
    callers_by.put_same new world.callers old (subst (λ n. caller_at n world.callers ≡ Some old) same there)
there_after world (OfNode old crashed) (OfCaller new) sent call same there = absurd same
there_after world (OfCaller old) (OfNode new out) sent call same there = absurd same

-- after an event the world has each other actor as before
pub others_after : (world : World) (new other : Actor) (sent : Option Message) (call : Option Done) → (AreOne other new → ⊥) → IsThere world other → IsThere (world_after world new sent call) other
others_after world (OfNode new out) (OfNode other away) sent call apart there = nodes_by.put_apart new world.nodes other.number apart ∙ there
others_after world (OfCaller new) (OfCaller other) sent call apart there = callers_by.put_apart new world.callers other.number apart ∙ there
others_after world (OfNode new out) (OfCaller other) sent call apart there = there
others_after world (OfCaller new) (OfNode other out) sent call apart there = there

pub nodes_after : (world : World) (new : Actor) (sent : Option Message) (call : Option Done) → node_numbers (world_after world new sent call) ≡ node_numbers world
nodes_after world (OfNode new out) sent call = node_put new world.nodes
nodes_after world (OfCaller new) sent call = refl

pub callers_after : (world : World) (new : Actor) (sent : Option Message) (call : Option Done) → caller_numbers (world_after world new sent call) ≡ caller_numbers world
callers_after world (OfNode new out) sent call = refl
callers_after world (OfCaller new) sent call = caller_put new world.callers

-- what was sent before an event is sent after it
pub sent_after : (world : World) (new : Actor) (sent : Option Message) (call : Option Done) (message : Message) → Contains world.sent message → Contains (world_after world new sent call).sent message
sent_after world (OfNode new out) None call message was = was
sent_after world (OfNode new out) (Some sent) call message was = Contains-append_left world.sent (sent ∷ []) message was
sent_after world (OfCaller new) None call message was = was
sent_after world (OfCaller new) (Some sent) call message was = Contains-append_left world.sent (sent ∷ []) message was

-- ---- a new actor

-- no actor of this kind has that number
abbrev pub IsNew : World → Actor → Type 0
IsNew world (OfNode node crashed) = node_at node.number world.nodes ≡ None
IsNew world (OfCaller caller) = caller_at caller.number world.callers ≡ None

pub new_apart : (world : World) (new other : Actor) → IsNew world new → IsThere world other → AreOne other new → ⊥
new_apart world (OfNode new out) (OfNode other away) none there same = none-some other (sym none ∙ ap (λ n. node_at n world.nodes) (sym same) ∙ there)
new_apart world (OfCaller new) (OfCaller other) none there same = none-some other (sym none ∙ ap (λ n. caller_at n world.callers) (sym same) ∙ there)
new_apart world (OfNode new out) (OfCaller other) none there same = same
new_apart world (OfCaller new) (OfNode other out) none there same = same

pub there_entered : (world : World) (new : Actor) → IsNew world new → IsThere (world_with world new) new
unfolding node_at caller_at
there_entered world (OfNode new out) none = node_at_push_same new.number world.nodes new refl none
there_entered world (OfCaller new) none = find_push_hit (λ (c : Caller). eqb c.number new.number) world.callers new (eqb_same new.number new.number refl) none

pub others_entered : (world : World) (new other : Actor) → IsNew world new → IsThere world other → IsThere (world_with world new) other
unfolding node_at caller_at
others_entered world (OfNode new out) (OfNode other away) none there =
    node_at_push_other other.number world.nodes new (λ same. new_apart world (OfNode new out) (OfNode other away) none there (sym same)) ∙ there
others_entered world (OfCaller new) (OfCaller other) none there = caller_left other.number world.callers (new ∷ []) other there
others_entered world (OfNode new out) (OfCaller other) none there = there
others_entered world (OfCaller new) (OfNode other out) none there = there

no_node : (nodes : List Node) → map (λ (n : Node). n.number) nodes ≡ [] → nodes ≡ []
no_node [] e = refl
no_node (node ∷ nodes) e = cc

-- the identifiers with that of the actor, if it is a node
abbrev pub ids_with : Actor → List ℕ → List ℕ
ids_with (OfNode node crashed) ids = ids ++ node.links.me.id.number ∷ []
ids_with (OfCaller caller) ids = ids

-- an actor may be admitted: it is new, its admission is a step of the world, and behind that step
-- the ring agrees with the world again
pub record Comes (scene : Scene) (new : Actor) : Type 0 where
  pub ring : Ring
  pub none : IsNew scene.world new
  pub step : WorldStep scene.world (world_with scene.world new)
  pub effect : RingEffect scene.ring ring
  pub agrees : Agrees (record { world = world_with scene.world new; crashed = scene.crashed; premise = scene.premise; ring = ring })
  pub standing : IsStanding scene.crashed new
  pub named : ring.ids ≡ ids_with new scene.ring.ids

-- the first node
founder_enters : (scene : Scene) (id r limit : ℕ) → Agrees scene → scene.world.nodes ≡ [] → id < 2 ^ 128 → 0 < r → Comes scene (OfNode (first_node id r limit) false)
unfolding node_at
founder_enters scene id r limit agrees none within positive = record {
  ring = founded_ring id r;
  none = ap (node_at 0) none;
  step = subst (λ (ns : List Node). WorldStep scene.world (record scene.world { nodes = ns ++ first_node id r limit ∷ [] })) (sym none)
      (WorldStep.Creates (alone (record { number = 0; id = record { number = id } }) r) limit within none);
  effect = RingEffect.Founded id r within positive (no_ring_yet scene agrees none);
  agrees = agrees_founded scene id r limit agrees none;
  standing = agrees.known 0 (ap (node_at 0) none);
  named = sym (ap (λ (r : Ring). r.ids ++ id ∷ []) (no_ring_yet scene agrees none));
}

-- admitting an actor that the registrar may admit is one step of the world
pub may_enter : (scene : Scene) (a : Assembled) (new : Actor) → Agrees scene
    → IsTrueOf scene (view_of_assembled a) → MayEnter a.register new → Comes scene new
unfolding caller_at
may_enter scene a (OfNode node crashed) agrees (nodes, callers, named, none_differ, others) (stands, (first, (id, r, limit, within, positive, is))) =
    subst (λ out. Comes scene (OfNode node out)) (sym stands)
    (subst (λ (n : Node). Comes scene (OfNode n false)) (sym is) (founder_enters scene id r limit agrees (no_node scene.world.nodes (nodes ∙ first)) within positive))
may_enter scene a (OfCaller caller) agrees (nodes, callers, named, none_differ, others) (new, (window, low, high, is)) =
    let none : caller_at caller.number scene.world.callers ≡ None =
    absent (λ (c : Caller). c.number) scene.world.callers caller.number (subst (λ ns. Contains ns caller.number → ⊥) (sym callers) new) in
    record {
      ring = scene.ring;
      none = none;
      step = subst (λ (c : Caller). WorldStep scene.world (world_with scene.world (OfCaller c))) (sym is) (WorldStep.Opens caller.number window low high none);
      effect = RingEffect.Same;
      agrees = record { members = agrees.members; counted = agrees.counted; named = agrees.named; known = agrees.known };
      standing = tt;
      named = refl;
    }

-- a node joins behind a member
pub may_join : (scene : Scene) (register : Register) (pred node : Node) (messages : List Message) → Agrees scene → node_numbers scene.world ≡ register.nodes → scene.ring.ids ≡ register.ids
    → IsSeenIn scene (record { actor = OfNode pred false; messages = messages }) → MayJoin register pred node → Comes scene (OfNode node false)
unfolding node_at
may_join scene register pred node messages agrees nodes named seen may =
    subst (λ (n : Node). Comes scene (OfNode n false)) (sym may.is) joined
  where
    peer : Peer
    peer = record { number = node.number; id = node.links.me.id }

    links : NodeLinks
    links = joined_links peer pred.links

    fresh : Node
    fresh = newborn links may.limit

    none : node_at node.number scene.world.nodes ≡ None
    none = absent (λ (n : Node). n.number) scene.world.nodes node.number (subst (λ ns. Contains ns node.number → ⊥) (sym nodes) may.new)

    some : scene.world.nodes ≢ []
    some e = none-some pred (sym (ap (node_at pred.number) e) ∙ seen.0.0)

    next : node.number ≡ length scene.ring.ids
    next = may.next ∙ sym (ap length named)

    here : links_of scene.ring.members pred.number ≡ Some (bare pred.links)
    here = agrees.members pred.number ∙ ap (place_in scene.crashed) seen.0.0 ∙ ap (λ out. place_of out pred) seen.1 ∙ placed pred may.live

    ring : Ring
    ring = record { ids = scene.ring.ids ++ node.links.me.id.number ∷ []; members = scene.ring.members ++ Some (bare links) ∷ [] }

    is_joined : Joins scene.ring node.links.me.id.number pred.number ring
    is_joined = record {
      links = bare pred.links;
      is_its = here;
      is_id = may.is_id;
      is_unused = λ c. may.is_unused (subst (λ ns. Contains ns node.links.me.id.number) named c);
      is_between = may.is_between;
      ids = refl;
      members = ap (λ n. scene.ring.members ++ Some (joined_links (record { number = n; id = node.links.me.id }) (bare pred.links)) ∷ []) next;
    }

    joined : Comes scene (OfNode fresh false)
    joined = record {
      ring = ring;
      none = none;
      step = WorldStep.Joins links may.limit may.is_id some none;
      effect = RingEffect.Stepped (Join node.links.me.id pred.number) is_joined;
      agrees = agrees_joined scene fresh (bare links) agrees none (next ∙ agrees.named) refl node.links.me.id.number;
      standing = agrees.known node.number none;
      named = refl;
    }
