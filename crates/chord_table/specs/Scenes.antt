-- A scene is a world of nodes and callers together with the ring of its nodes:
--
--     world     nodes 0 1 2 3, callers, messages, history      (steps: chord_model)
--     ring      links of  0 1 - 3, by number                   (steps: chord_ring)
--     crashed             2
--
-- One list of steps leads to both (Lived): each step of the world comes with what it is to the
-- ring, and a crash is a step of its own. The ring has the links, without fingers, of each node
-- that neither crashed nor is gone (Agrees). The premise is that the ring allowed each crash. A
-- crash by force ends it for good: from then on nothing is promised of the ring.
use Rattle.std.specs.Prelude.{◌≡◌, ℕ, ◌^◌, ◌<◌, ◌||◌, ◌==◌, Bool, true, false, Option, None, Some, List, [], ◌∷◌, length}
use Rattle.chord_links.specs.NodeLinks.{NodeLinks}
use Rattle.chord_links.specs.Fingers.{no_fingers}
use Rattle.chord_ring.specs.declared.ring_step.RingStep.{RingStep}
use Rattle.chord_ring.specs.Ring.{links_of, CanDepart}
use Rattle.chord_ring.specs.Steps.{Ring, Step, founded_ring, ring_without}
use Rattle.chord_model.specs.declared.phase.Phase.{Phase}
use Rattle.chord_model.specs.declared.phase.Phase.TheVariants as phase
use Rattle.chord_model.specs.Node.{Node}
use Rattle.chord_model.specs.World.{World, WorldStep, empty_world, node_at}

-- the links without their fingers, which are no part of the ring
abbrev pub bare : NodeLinks → NodeLinks
bare links = record links { fingers = no_fingers links.me }

-- the bare links of a node that is neither crashed nor gone
abbrev pub links_in : Bool → Phase → NodeLinks → Option NodeLinks
links_in true phase links = None
links_in false phase.Staying links = Some (bare links)
links_in false phase.Leaving links = Some (bare links)
links_in false phase.Gone links = None

-- what the ring has of the node, which crashed or not
abbrev pub place_of : Bool → Node → Option NodeLinks
place_of crashed node = links_in crashed node.phase node.links

-- whether the number is one of these
abbrev pub is_among : ℕ → List ℕ → Bool
is_among number [] = false
is_among number (other ∷ rest) = (other == number) || is_among number rest

-- what the ring has under a number, if these nodes crashed
abbrev pub place_in : List ℕ → Option Node → Option NodeLinks
place_in crashed None = None
place_in crashed (Some node) = place_of (is_among node.number crashed) node

-- the ring before there is a node
abbrev pub no_ring : Ring
no_ring = record { ids = []; members = [] }

-- a world, the numbers of its nodes that crashed, whether the ring allowed each crash, and the ring
-- of the others that are not gone
pub record Scene : Type 0 where
  pub world : World
  pub crashed : List ℕ
  pub premise : Bool
  pub ring : Ring

abbrev pub empty_scene : Scene
empty_scene = record { world = empty_world; crashed = []; premise = true; ring = no_ring }

-- the ring has the links of the nodes, by number, except of those that crashed or are gone
pub record Agrees (scene : Scene) : Type 0 where
  pub members : (number : ℕ) → links_of scene.ring.members number
      ≡ place_in scene.crashed (node_at number scene.world.nodes)
  pub counted : length scene.ring.members ≡ length scene.world.nodes
  pub named : length scene.ring.ids ≡ length scene.world.nodes
  pub known : (number : ℕ) → node_at number scene.world.nodes ≡ None
      → is_among number scene.crashed ≡ false

-- what a step of the world is to the ring
pub data RingEffect (old : Ring) : Ring → Type 0 where
  Same : RingEffect old old
  Founded : (id r : ℕ) → id < 2 ^ 128 → 0 < r → old ≡ no_ring → RingEffect old (founded_ring id r)
  Stepped : {new : Ring} (step : RingStep) → Step old step new → RingEffect old new
  Departed : (node : ℕ) → CanDepart old.members node → RingEffect old (ring_without old node)

-- the scene after a node crashed
abbrev pub with_crash : ℕ → Scene → Scene
with_crash number scene =
    record scene { crashed = number ∷ scene.crashed; ring = ring_without scene.ring number }

-- the scene after a crash that nobody asked the ring about
abbrev pub with_break : ℕ → Scene → Scene
with_break number scene = record (with_crash number scene) { premise = false }

-- some list of steps leads to the scene: each is a step of the world with what it is to the ring,
-- or a crash, behind which the ring is safe, or a crash by force, which breaks the premise for good
pub data Lived : Scene → Type 0 where
  Begins : Lived empty_scene
  Goes_on : {old new : Scene} → Lived old → WorldStep old.world new.world
      → new.crashed ≡ old.crashed → new.premise ≡ old.premise
      → RingEffect old.ring new.ring → Agrees new → Lived new
  Crashes : {old : Scene} (number : ℕ) → Lived old → CanDepart old.ring.members number
      → Agrees (with_crash number old) → Lived (with_crash number old)
  Breaks : {old : Scene} (number : ℕ) → Lived old
      → Agrees (with_break number old) → Lived (with_break number old)
