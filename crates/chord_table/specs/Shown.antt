-- What a look proves: of the world that the seats show, and of its ring.
use Rattle.std.specs.Prelude.{◌≡◌, ◌≢◌, ℕ, ◌^◌, ◌<◌, ◌⊎◌, if◌then◌else◌, true, Some, is_some, List, [], ◌∷◌, ◌++◌, flat_map, All, Contains}
use Rattle.std.specs.List.Sorted.{IsPermutation}
use Rattle.chord_caller.specs.Caller.{Caller, Note, Submission, submission_at, seen_at}
use Rattle.chord_map.specs.declared.done.Done.{Done}
use Rattle.chord_model.specs.declared.message.Message.TheVariants.{Note as NoteMessage}
use Rattle.chord_model.specs.Headline.{Headline}
use Rattle.chord_model.specs.World.{World, Reached, InOrder, HasOneHolder, node_at, caller_at}
use Rattle.chord_map.specs.History.{IsLegal, EachOnce, StandsIn}
use Rattle.chord_ring.specs.Ring.{Members}
use Rattle.chord_table.specs.Actors.{node_numbers, caller_numbers}
use Rattle.chord_table.specs.Rings.{AreMembers, StandsOnRing}
use Rattle.chord_table.specs.Scenes.{Scene, Lived, Agrees, is_among, no_ring}
use Rattle.chord_table.specs.Seen.{Sight}
use Rattle.chord_table.specs.Later.{WasThere}
use Rattle.chord_table.specs.Views.{NodeSight, CallerSight, Assembled, AllDiffer, IsSeenIn, Knows, known_in, nodes_among, callers_among}

-- Some list of steps leads to the scene, so the theorem holds of its world; and if the ring allowed
-- each crash, there is no node yet or the members are one ring.
pub record HoldsIn (scene : Scene) : Type 0 where
  pub lived : Lived scene
  pub agrees : Agrees scene
  pub reached : Reached scene.world
  pub headline : Headline scene.world
  pub one_ring : scene.premise ≡ true → (scene.ring ≡ no_ring) ⊎ StandsOnRing scene.ring.members

-- some such scene has the node as its seat shows it
pub record NodeShown (sight : NodeSight) : Type 0 where
  pub scene : Scene
  pub holds : HoldsIn scene
  pub there : node_at sight.node.number scene.world.nodes ≡ Some sight.node
  pub standing : is_among sight.node.number scene.crashed ≡ sight.crashed
  pub messages : All (Contains scene.world.sent) sight.messages

-- some such scene has the caller as its seat shows it, and all that the caller took is in one legal
-- history, each call once, in the order that callers had seen
pub record CallerShown (sight : CallerSight) : Type 0 where
  pub scene : Scene
  pub holds : HoldsIn scene
  pub there : caller_at sight.caller.number scene.world.callers ≡ Some sight.caller
  pub messages : All (Contains scene.world.sent) sight.messages
  pub legal : IsLegal scene.world.history
  pub mine : All (λ done. (done.caller ≡ sight.caller.number) × StandsIn scene.world.history done)
      sight.caller.mine
  pub once : EachOnce sight.caller.mine
  pub told : All (StandsIn scene.world.history) sight.caller.told
  -- the calls of each note that came are in the history too
  pub noted : (note : Note) → Contains sight.messages (NoteMessage note)
      → All (StandsIn scene.world.history) note.done
  pub in_order : InOrder scene.world
  pub one_holder : scene.world.nodes ≢ [] → (x : ℕ) → x < 2 ^ 128 → HasOneHolder x scene.world.nodes

-- of the callers with one number, the last one only
abbrev pub latest_callers : List Caller → List Caller
latest_callers [] = []
latest_callers (caller ∷ rest) =
    let others = latest_callers rest in
    if is_some (caller_at caller.number rest) then others else caller ∷ others

-- all calls that these callers took, one caller after another
abbrev pub taken_by_all : List Caller → List Done
taken_by_all callers = flat_map (λ (caller : Caller). caller.mine) callers

-- the history has all calls that the caller took, as its own and each once, and all that it learned
-- by notes
pub record IsIn (history : List Done) (caller : Caller) : Type 0 where
  pub mine : All (λ done. (done.caller ≡ caller.number) × StandsIn history done) caller.mine
  pub once : EachOnce caller.mine
  pub told : All (StandsIn history) caller.told
  -- a call in the history with a number of this caller has the request that it submitted under that
  -- number
  pub made : (number : ℕ) (submission : Submission) (done : Done)
      → submission_at number caller.submitted ≡ Some submission → StandsIn history done
      → done.caller ≡ caller.number → done.number ≡ number → done.request ≡ submission.request
  -- each of its requests is in the history after all that it had seen when it submitted it
  pub in_order : (number : ℕ) (submission : Submission) (before behind : List Done) (done : Done)
      → submission_at number caller.submitted ≡ Some submission → history ≡ before ++ done ∷ behind
      → done.caller ≡ caller.number → done.number ≡ number
      → All (StandsIn before) (seen_at caller submission)

-- One such scene has all these callers, then or later: what they took is in one legal history, no
-- call was taken by two of them, and each identifier has one holder.
pub record WitnessShown (callers : List Caller) : Type 0 where
  pub scene : Scene
  pub holds : HoldsIn scene
  pub there : All (WasThere scene.world) callers
  pub legal : IsLegal scene.world.history
  pub stand : All (IsIn scene.world.history) callers
  pub once : EachOnce (taken_by_all (latest_callers callers))
  pub one_holder : scene.world.nodes ≢ [] → (x : ℕ) → x < 2 ^ 128 → HasOneHolder x scene.world.nodes

-- One such scene has each of these actors as it was when its seat was taken in, none twice; it has
-- those that are registered and no others, and its ring is as the register knows it.
pub record AssemblyShown (assembled : Assembled) : Type 0 where
  pub scene : Scene
  pub holds : HoldsIn scene
  pub nodes : node_numbers scene.world ≡ assembled.register.nodes
  pub callers : caller_numbers scene.world ≡ assembled.register.callers
  pub knows : Knows scene (known_in assembled.register)
  pub differ : AllDiffer assembled.taken
  pub there : All (IsSeenIn scene) assembled.taken
  pub legal : IsLegal scene.world.history
  pub stand : All (IsIn scene.world.history) (callers_among assembled.taken)
  pub once : EachOnce (taken_by_all (callers_among assembled.taken))
  pub one_holder : scene.world.nodes ≢ [] → (x : ℕ) → x < 2 ^ 128 → HasOneHolder x scene.world.nodes

-- These nodes and callers, and no others, are a reachable world, which has them in the order of
-- registration. If the ring allowed each crash, those of the nodes that neither crashed nor are
-- gone are one ring.
pub record WholeShown (assembled : Assembled) : Type 0 where
  pub world : World
  pub reached : Reached world
  pub nodes : IsPermutation world.nodes (nodes_among assembled.taken)
  pub callers : IsPermutation world.callers (callers_among assembled.taken)
  pub node_order : node_numbers world ≡ assembled.register.nodes
  pub caller_order : caller_numbers world ≡ assembled.register.callers
  pub messages : All (λ (sight : Sight). All (Contains world.sent) sight.messages) assembled.taken
  pub headline : Headline world
  pub legal : IsLegal world.history
  pub stand : All (IsIn world.history) (callers_among assembled.taken)
  pub once : EachOnce (taken_by_all (callers_among assembled.taken))
  pub one_holder : world.nodes ≢ [] → (x : ℕ) → x < 2 ^ 128 → HasOneHolder x world.nodes
  pub ring : assembled.register.premise ≡ true → nodes_among assembled.taken ≢ []
      → (members : Members) → AreMembers assembled members → StandsOnRing members
