-- Views that stay true after an event, or after an actor was admitted.
use Rattle.std.proofs.Common.{◌≡◌, ℕ, inl, inr, List, [], ◌∷◌, ◌++◌, map, set, Option, Some, None, refl, sym, ap, subst, ◌∙◌, Contains, All}
use Rattle.std.proofs.lemmas.List.{map-append}
use Rattle.std.proofs.lemmas.List.Elements.{All-contains, All-weaker, All-nil, All-cons, All-head, All-tail}
use mathlib.Core.Option.{some}
use lib.ListN.{get_elem?}
use Rattle.chord_caller.specs.Caller.{Caller}
use Rattle.chord_model.specs.declared.message.Message.{Message}
use Rattle.chord_model.specs.Node.{Node}
use Rattle.chord_model.specs.World.{World, WasSent, node_at}
use Rattle.chord_map.specs.declared.done.Done.{Done}
use Rattle.chord_ring.specs.Steps.{Ring}
use Rattle.chord_table.proofs.Later.{GoesOn, event_goes_on, was_there_after, was_there_entered}
use Rattle.chord_table.proofs.Numbers.{one_actor}
use Rattle.chord_table.proofs.Owning.{one_right, shown_heir}
use Rattle.chord_table.proofs.Rings.{agrees_kept}
use Rattle.chord_table.proofs.Stays.{Stays, knows_on}
use Rattle.chord_table.proofs.Showing.{shows_changed}
use Rattle.chord_table.proofs.Worlds.{IsNew, event_steps, there_after, others_after, nodes_after, callers_after, sent_after, others_entered}
use Rattle.chord_table.specs.Actors.{IsThere, AreOne, Event, world_after, world_with}
use Rattle.chord_table.specs.Later.{WasThere}
use Rattle.chord_table.specs.Scenes.{Scene, Lived, Agrees, RingEffect, is_among}
use Rattle.chord_table.specs.Seen.{Actor, OfNode, OfCaller, Sight, Known, View, Admitted, Shown, Together, Witnessed, Sent, Standing, Spent}
use Rattle.chord_table.specs.Views.{OneIs, IsSeenIn, IsStanding, IsTrueOf, HaveOneOwner, Shows, KeepsPlace}

-- ---- an event

-- the scene after an event, with this ring
abbrev pub scene_after : Scene → Actor → Option Message → Option Done → Ring → Scene
scene_after scene new sent call ring = record { world = world_after scene.world new sent call; crashed = scene.crashed; premise = scene.premise; ring = ring }

pub all_sent_after : (world : World) (new : Actor) (sent : Option Message) (call : Option Done) (messages : List Message)
    → All (Contains world.sent) messages → All (Contains (world_after world new sent call).sent) messages
all_sent_after world new sent call messages all =
    All-weaker (Contains world.sent) (Contains (world_after world new sent call).sent) (λ m. sent_after world new sent call m) messages all

-- the sight of another actor stays true
pub seen_after : (scene : Scene) (old new : Actor) (sent : Option Message) (call : Option Done) (ring : Ring) (sight : Sight) → AreOne old new → (AreOne sight.actor old → ⊥)
    → IsSeenIn scene sight → IsSeenIn (scene_after scene new sent call ring) sight
seen_after scene old new sent call ring sight same apart ((there, all), standing) = (
  (others_after scene.world new sight.actor sent call (λ one. apart (one_right old new sight.actor same one)) there, all_sent_after scene.world new sent call sight.messages all),
  standing,
)

-- the sights of other actors whose seats were taken in stay true
pub all_seen_after : (scene : Scene) (old new : Actor) (sent : Option Message) (call : Option Done) (ring : Ring) (taken : List Sight) → AreOne old new → (OneIs taken old → ⊥)
    → All (IsSeenIn scene) taken → All (IsSeenIn (scene_after scene new sent call ring)) taken
all_seen_after scene old new sent call ring [] same apart all = All-nil (IsSeenIn (scene_after scene new sent call ring))
all_seen_after scene old new sent call ring (sight ∷ rest) same apart all =
    All-cons (IsSeenIn (scene_after scene new sent call ring)) sight rest
    (seen_after scene old new sent call ring sight same (λ one. apart (inl one)) (All-head (IsSeenIn scene) sight rest all))
    (all_seen_after scene old new sent call ring rest same (λ one. apart (inr one)) (All-tail (IsSeenIn scene) sight rest all))

-- each view stays true after an event, except those of its actor
pub true_after : (scene : Scene) (old new : Actor) (messages : List Message) (sent : Option Message) (call : Option Done) (ring : Ring) → ring.ids ≡ scene.ring.ids → Stays scene.premise scene.ring ring → AreOne old new → GoesOn old new → IsThere scene.world old
    → (u : View) → (HaveOneOwner u (Shown old messages) → ⊥) → IsTrueOf scene u → IsTrueOf (scene_after scene new sent call ring) u
true_after scene old new messages sent call ring named stays same on here (Admitted nodes callers known taken) apart (n, c, i, differ, all) =
    (nodes_after scene.world new sent call ∙ n, callers_after scene.world new sent call ∙ c, knows_on scene (scene_after scene new sent call ring) known named refl stays i, differ, all_seen_after scene old new sent call ring taken same apart all)
true_after scene old new messages sent call ring named stays same on here (Shown other more) apart seen =
    seen_after scene old new sent call ring (record { actor = other; messages = more }) same apart seen
true_after scene old new messages sent call ring named stays same on here (Together sights) apart (differ, all) =
    (differ, all_seen_after scene old new sent call ring sights same apart all)
true_after scene old new messages sent call ring named stays same on here (Witnessed callers) apart were =
    All-weaker (WasThere scene.world) (WasThere (world_after scene.world new sent call)) (λ c. was_there_after scene.world old new sent call same on here c) callers were
true_after scene old new messages sent call ring named stays same on here (Sent message) apart was = sent_after scene.world new sent call message was
true_after scene old new messages sent call ring named stays same on here (Standing number) apart h = stays number h
true_after scene old new messages sent call ring named stays same on here Spent apart h = tt

known_was_sent : (world : World) (messages : List Message) (taken : Option Message) → All (Contains world.sent) messages → WasSent messages taken → WasSent world.sent taken
known_was_sent world messages None all known = known
known_was_sent world messages (Some message) all known = All-contains (Contains world.sent) messages message all known

-- an event leaves whether its actor crashed
pub standing_after : (crashed : List ℕ) (old new : Actor) (taken sent : Option Message) (call : Option Done) → Event old taken new sent call → IsStanding crashed old → IsStanding crashed new
standing_after crashed _ _ _ _ _ (Event.Acts {old = old} {new = new} {crashed = out} {taken = taken} {sent = sent} {done = call} step) standing =
    subst (λ n. is_among n crashed ≡ out) (one_actor (OfNode old out) (OfNode new out) taken sent call (Event.Acts step)) standing
standing_after crashed _ _ _ _ _ (Event.Calls step) standing = tt

-- the ring has the same of the actor
agrees_after : (scene : Scene) (old new : Actor) (taken sent : Option Message) (call : Option Done) → Event old taken new sent call → KeepsPlace old new → IsThere scene.world old
    → IsStanding scene.crashed old → Agrees scene → Agrees (scene_after scene new sent call scene.ring)
agrees_after scene _ _ _ _ _ (Event.Acts {old = old} {new = new} {crashed = out} {taken = taken} {sent = sent} {done = call} step) keeps there standing agrees =
    let same : old.number ≡ new.number = one_actor (OfNode old out) (OfNode new out) taken sent call (Event.Acts step) in
    agrees_kept scene.world scene.crashed scene.ring scene.premise old new (world_after scene.world (OfNode new out) sent call) agrees
    (subst (λ n. node_at n scene.world.nodes ≡ Some old) same there) refl (sym same) out standing keeps
agrees_after scene _ _ _ _ _ (Event.Calls step) keeps there standing agrees =
    record { members = agrees.members; counted = agrees.counted; named = agrees.named; known = agrees.known }

-- an event of the actor that a seat shows is a step of the world, and the seats show the new scene
pub event_shown : (scene : Scene) (views : List View) (id : ℕ) (old new : Actor) (messages : List Message) (taken sent : Option Message) (call : Option Done)
    → Lived scene → Agrees scene → Shows scene views → get_elem? views id ≡ some (Shown old messages) → WasSent messages taken → Event old taken new sent call → KeepsPlace old new
    → Lived (scene_after scene new sent call scene.ring) × Agrees (scene_after scene new sent call scene.ring) × Shows (scene_after scene new sent call scene.ring) (set views id (Shown new messages))
event_shown scene views id old new messages taken sent call lived agrees shows at known event keeps =
    let ((there, all), standing) = shows.agrees id (Shown old messages) at in
    let same = one_actor old new taken sent call event in
    let after = agrees_after scene old new taken sent call event keeps there standing agrees in (
      Lived.Goes_on lived (event_steps scene.world old new taken sent call there (known_was_sent scene.world messages taken all known) event) refl refl RingEffect.Same after,
      after,
      shows_changed scene (scene_after scene new sent call scene.ring) views id (Shown old messages) (Shown new messages) shows at (shown_heir old new messages messages same)
          ((there_after scene.world old new sent call same there, all_sent_after scene.world new sent call messages all), standing_after scene.crashed old new taken sent call event standing)
          (λ seat u apart e. true_after scene old new messages sent call scene.ring refl (λ number stands. stands) same (event_goes_on old new taken sent call event) there u (λ one. apart (shows.apart seat id u (Shown old messages) e at one)) (shows.agrees seat u e)),
    )

-- ---- a new actor

-- the scene with one actor more, and this ring
abbrev pub scene_with : Scene → Actor → Ring → Scene
scene_with scene new ring = record { world = world_with scene.world new; crashed = scene.crashed; premise = scene.premise; ring = ring }

pub seen_entered : (scene : Scene) (new : Actor) (ring : Ring) (sight : Sight) → IsNew scene.world new → IsSeenIn scene sight → IsSeenIn (scene_with scene new ring) sight
seen_entered scene (OfNode new out) ring sight none ((there, all), standing) = ((others_entered scene.world (OfNode new out) sight.actor none there, all), standing)
seen_entered scene (OfCaller new) ring sight none ((there, all), standing) = ((others_entered scene.world (OfCaller new) sight.actor none there, all), standing)

pub all_seen_entered : (scene : Scene) (new : Actor) (ring : Ring) (taken : List Sight) → IsNew scene.world new → All (IsSeenIn scene) taken → All (IsSeenIn (scene_with scene new ring)) taken
all_seen_entered scene new ring taken none all = All-weaker (IsSeenIn scene) (IsSeenIn (scene_with scene new ring)) (λ sight. seen_entered scene new ring sight none) taken all

-- each view stays true after an actor was admitted, except the registrar's
pub true_entered : (scene : Scene) (new : Actor) (ring : Ring) (nodes callers : List ℕ) (known : Known) (taken : List Sight) → IsNew scene.world new → Stays scene.premise scene.ring ring
    → (u : View) → (HaveOneOwner u (Admitted nodes callers known taken) → ⊥) → IsTrueOf scene u → IsTrueOf (scene_with scene new ring) u
true_entered scene new ring nodes callers known taken none stays (Admitted _ _ _ _) apart h = absurd (apart tt)
true_entered scene new ring nodes callers known taken none stays (Shown other messages) apart seen = seen_entered scene new ring (record { actor = other; messages = messages }) none seen
true_entered scene new ring nodes callers known taken none stays (Together sights) apart (differ, all) = (differ, all_seen_entered scene new ring sights none all)
true_entered scene new ring nodes callers known taken none stays (Witnessed others) apart were =
    All-weaker (WasThere scene.world) (WasThere (world_with scene.world new)) (λ c. was_there_entered scene.world new c) others were
true_entered scene (OfNode new out) ring nodes callers known taken none stays (Sent message) apart was = was
true_entered scene (OfCaller new) ring nodes callers known taken none stays (Sent message) apart was = was
true_entered scene new ring nodes callers known taken none stays (Standing number) apart h = stays number h
true_entered scene new ring nodes callers known taken none stays Spent apart h = tt

-- the registrar's view with the number of the new actor is true
pub register_entered : (world : World) (nodes : List ℕ) (node : Node) → map (λ (n : Node). n.number) world.nodes ≡ nodes
    → map (λ (n : Node). n.number) (world.nodes ++ node ∷ []) ≡ nodes ++ node.number ∷ []
register_entered world nodes node is = map-append (λ (n : Node). n.number) world.nodes (node ∷ []) ∙ ap (λ ns. ns ++ node.number ∷ []) is

pub callers_entered : (world : World) (callers : List ℕ) (caller : Caller) → map (λ (c : Caller). c.number) world.callers ≡ callers
    → map (λ (c : Caller). c.number) (world.callers ++ caller ∷ []) ≡ callers ++ caller.number ∷ []
callers_entered world callers caller is = map-append (λ (c : Caller). c.number) world.callers (caller ∷ []) ∙ ap (λ ns. ns ++ caller.number ∷ []) is
