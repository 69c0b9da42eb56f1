-- What a World answers if a node joins.
use Rattle.std.specs.Prelude.{◌≡◌, ◌≢◌, ℕ, ◌<◌, ◌^◌, Some, Result, Ok, Err, List, [], ◌∷◌, ◌++◌, length, slice_get, IsTrue}
use Rattle.std.specs.List.{Contains}
use Rattle.chord_ident.specs.declared.id.Id.{Id}
use Rattle.chord_ident.specs.Circle.{IsBetween}
use Rattle.chord_links.specs.NodeLinks.{NodeLinks, first_entry}
use Rattle.chord_ring.specs.Ring.{is_member, links_of}
use Rattle.chord_ring.specs.Steps.{Joins, joined_links}
use Rattle.chord_ring.specs.Refusals.{JoinRefused}
use Rattle.chord_ring.specs.declared.ring_fault.RingFault.TheVariants as fault
use Rattle.chord_model.specs.Node.{newborn}
use Rattle.chord_world.specs.declared.outcome.Outcome.{Outcome}
use Rattle.chord_world.specs.declared.outcome.Outcome.TheVariants as did
use Rattle.chord_world.specs.declared.refusal.Refusal.{Refusal}
use Rattle.chord_world.specs.declared.refusal.Refusal.TheVariants as refused
use Rattle.chord_world.specs.declared.refusal.StepFault.TheVariants as step_fault
use Rattle.chord_world.specs.declared.fate.Fate.TheVariants.{Well}
use Rattle.chord_world.specs.Refusals.{DoneOrRefused}
use Rattle.chord_world.specs.State.{WorldState, ring_of}

-- the world with one more node with these links and this store limit
abbrev pub with_newborn : NodeLinks → ℕ → WorldState → WorldState
with_newborn links limit old =
    record old { world = record old.world { nodes = old.world.nodes ++ newborn links limit ∷ [] }; fates = old.fates ++ Well ∷ [] }

-- a node with this identifier and store limit joined behind a member under this number
pub record JoinsBehind (id : Id) (behind limit : ℕ) (old : WorldState) (number : ℕ) (new : WorldState) : Type 0 where
  pub links : NodeLinks
  pub joins : Joins (ring_of old) id.number behind (ring_of new)
  pub numbered : number ≡ length old.world.nodes
  pub new_is : new ≡ with_newborn links limit old

-- the limits are those of the stores that are left
abbrev pub DoesJoin : Id → ℕ → List ℕ → WorldState → Outcome → WorldState → Type 0
DoesJoin id behind limits old (did.Node number) new = (limit : ℕ) × (slice_get limits 0 ≡ Some limit) × JoinsBehind id behind limit old number new
DoesJoin id behind limits old outcome new = ⊥

abbrev pub RefusesJoin : Id → ℕ → List ℕ → WorldState → Refusal → Type 0
RefusesJoin id behind limits old refused.NotCreated = old.world.nodes ≡ []
RefusesJoin id behind limits old refused.NoSuchNode = (old.world.nodes ≢ []) × JoinRefused (ring_of old) id.number behind fault.NoSuchNode
RefusesJoin id behind limits old refused.IdTaken = JoinRefused (ring_of old) id.number behind fault.IdTaken
RefusesJoin id behind limits old refused.NoStore = IsTrue (is_member (ring_of old).members behind) × (¬ (Contains (ring_of old).ids id.number)) × (limits ≡ [])
RefusesJoin id behind limits old (refused.Step step_fault.NotBetween) = JoinRefused (ring_of old) id.number behind fault.NotBetween × (limits ≢ [])
RefusesJoin id behind limits old refused.Memory = JoinRefused (ring_of old) id.number behind fault.Memory × (limits ≢ [])
RefusesJoin id behind limits old refusal = ⊥

abbrev pub JoinIs : Id → ℕ → List ℕ → WorldState → Result Outcome Refusal → WorldState → Type 0
JoinIs id behind limits = DoneOrRefused (DoesJoin id behind limits) (RefusesJoin id behind limits)

-- a node with this identifier may join behind this member
pub record MayJoin (id : Id) (behind : ℕ) (pred : NodeLinks) (old : WorldState) : Type 0 where
  pub is_its : links_of (ring_of old).members behind ≡ Some pred
  pub is_id : id.number < 2 ^ 128
  pub is_unused : ¬ (Contains (ring_of old).ids id.number)
  pub is_between : IsBetween pred.me.id.number id.number (first_entry pred).id.number

-- these are the links of the next node, which may join, and a store is left for it
pub record CanJoin (id : Id) (behind : ℕ) (limits : List ℕ) (old : WorldState) (links : NodeLinks) : Type 0 where
  pub pred : NodeLinks
  pub may : MayJoin id behind pred old
  pub links_are : links ≡ joined_links (record { number = length old.world.nodes; id = id }) pred
  pub stocked : limits ≢ []

-- the links of a node that can join, or the refusal
abbrev pub LinksToJoin : Id → ℕ → List ℕ → WorldState → Result NodeLinks Refusal → Type 0
LinksToJoin id behind limits old (Ok links) = CanJoin id behind limits old links
LinksToJoin id behind limits old (Err refusal) = RefusesJoin id behind limits old refusal
