-- What a look proves, by the theorem over worlds and the ring's.
use Rattle.std.proofs.Common.{◌≡◌, ⊎_elim, inl, inr, Bool, subst, List, All}
use Rattle.std.specs.Prelude.{Contains}
use Rattle.std.proofs.lemmas.List.Elements.{All-contains, All-weaker}
use Rattle.chord_caller.specs.Caller.{Caller}
use Rattle.chord_model.specs.declared.message.Message.TheVariants.{Note as NoteMessage}
use Rattle.chord_model.specs.Headline.{Headline}
use Rattle.chord_model.specs.World.{World, Reached}
use Rattle.chord_ring.specs.Ring.{IsSafe, IsOneRing}
use Rattle.chord_ring.specs.Steps.{Ring, IsReached}
use Rattle.chord_table.proofs.Histories.{was_in, once_in_all}
use Rattle.chord_table.proofs.Rings.{lived_reached, lived_ring}
use Rattle.chord_table.specs.Later.{WasThere}
use Rattle.chord_table.specs.Rings.{StandsOnRing}
use Rattle.chord_table.specs.Scenes.{Scene, Lived, Agrees}
use Rattle.chord_table.specs.Seen.{Actor, OfNode, OfCaller, Witnessed}
use Rattle.chord_table.specs.Shown.{HoldsIn, NodeShown, CallerShown, IsIn, WitnessShown}
use Rattle.chord_table.specs.Views.{IsSeenIn, IsTrueOfSome, Sight, NodeSight, CallerSight, node_in, crashed_in, caller_in, as_node, view_of}

-- what holds of every scene that steps lead to
abbrev pub EachHolds : Type 0
EachHolds = (scene : Scene) → Lived scene → Agrees scene → HoldsIn scene

pub scene_holds : ((world : World) → ∥ Reached world ∥₁ → Headline world)
    → ((ring : Ring) → IsReached ring → IsSafe ring.members)
    → ((ring : Ring) → IsReached ring → IsOneRing ring.members) → EachHolds
scene_holds headline safe one_ring scene lived agrees =
    let reached : Reached scene.world = lived_reached scene lived in
    record {
      lived = lived;
      agrees = agrees;
      reached = reached;
      headline = headline scene.world ∣ reached ∣₁;
      one_ring = λ holds.
          ⊎_elim (λ none. inl none) (λ ring. inr (stands ring)) (lived_ring scene lived holds);
    }
  where
    stands : IsReached scene.ring → StandsOnRing scene.ring.members
    stands reached = record {
      ids = scene.ring.ids;
      reached = reached;
      safe = safe scene.ring reached;
      one_ring = one_ring scene.ring reached;
    }

pub node_told : (s : Sight) (v : NodeSight)
    → s.actor ≡ OfNode (node_in s.actor) (crashed_in s.actor) → as_node s ≡ v
    → IsTrueOfSome (view_of s) → EachHolds → NodeShown v
node_told s v is shows (scene, lived, agrees, seen) each =
    let ((there, messages), standing) =
    subst (λ (a : Actor). IsSeenIn scene (record { actor = a; messages = s.messages })) is seen in
    subst (λ (n : NodeSight). NodeShown n) shows
    (record {
      scene = scene;
      holds = each scene lived agrees;
      there = there;
      standing = standing;
      messages = messages;
    })

pub caller_told : (s : Sight) (v : CallerSight) → s.actor ≡ OfCaller (caller_in s.actor)
    → record { caller = caller_in s.actor; messages = s.messages } ≡ v → IsTrueOfSome (view_of s)
    → EachHolds → CallerShown v
caller_told s v is shows (scene, lived, agrees, seen) each =
    let ((there, messages), standing) =
    subst (λ (a : Actor). IsSeenIn scene (record { actor = a; messages = s.messages })) is seen in
    let holds : HoldsIn scene = each scene lived agrees in
    let history = holds.headline.history in
    let caller = caller_in s.actor in
    subst (λ (n : CallerSight). CallerShown n) shows (record {
      scene = scene;
      holds = holds;
      there = there;
      messages = messages;
      legal = history.legal;
      mine = history.mine caller.number caller there;
      once = history.once caller.number caller there;
      told = history.told caller.number caller there;
      noted = λ note came.
          history.noted note
          (All-contains (Contains scene.world.sent) s.messages (NoteMessage note) messages came);
      in_order = history.in_order;
      one_holder = holds.headline.one_holder;
    })

pub witness_told : (callers : List Caller) → IsTrueOfSome (Witnessed callers) → EachHolds
    → WitnessShown callers
witness_told callers (scene, lived, agrees, there) each =
    let holds : HoldsIn scene = each scene lived agrees in
    let history = holds.headline.history in
    let stand : All (IsIn scene.world.history) callers =
    All-weaker (WasThere scene.world) (IsIn scene.world.history)
    (λ c. was_in scene.world history c) callers there in
    record {
      scene = scene;
      holds = holds;
      there = there;
      legal = history.legal;
      stand = stand;
      once = once_in_all scene.world.history callers stand;
      one_holder = holds.headline.one_holder;
    }
