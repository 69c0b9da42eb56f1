-- What a World answers to a step of the ring's upkeep, to a crash and to a rescue.
use Rattle.std.specs.Prelude.{◌≡◌, ◌≢◌, ℕ, true, false, Some, Result, List, [], slice_get, slice_set, IsTrue}
use Rattle.std.specs.Option.{option_map}
use Rattle.chord_links.specs.declared.peer.Peer.{Peer}
use Rattle.chord_links.specs.NodeLinks.{NodeLinks}
use Rattle.chord_ring.specs.declared.ring_fault.RingFault.{RingFault}
use Rattle.chord_ring.specs.declared.ring_step.RingStep.{RingStep}
use Rattle.chord_ring.specs.declared.ring_step.RingDid.{RingDid}
use Rattle.chord_ring.specs.declared.ring_step.RingDid.TheVariants as ring
use Rattle.chord_ring.specs.Ring.{is_member, CanDepart}
use Rattle.chord_ring.specs.Steps.{Step}
use Rattle.chord_ring.specs.Refusals.{Refused, Did}
use Rattle.chord_model.specs.Node.{Node}
use Rattle.chord_model.specs.World.{node_at}
use Rattle.chord_world.specs.declared.outcome.Outcome.{Outcome}
use Rattle.chord_world.specs.declared.outcome.Outcome.TheVariants as did
use Rattle.chord_world.specs.declared.refusal.Refusal.{Refusal}
use Rattle.chord_world.specs.declared.refusal.Refusal.TheVariants as refused
use Rattle.chord_world.specs.declared.refusal.StepFault.TheVariants as step_fault
use Rattle.chord_world.specs.declared.fate.Fate.TheVariants as fate
use Rattle.chord_world.specs.Refusals.{refusal_of_ring, DoneOrRefused}
use Rattle.chord_world.specs.State.{WorldState, ring_of, is_crashed, leaving}
use Rattle.chord_world.specs.Linking.{with_node}
use Rattle.chord_world.specs.Handing.{IsMissing, HasNode}

-- ---- links

-- the links of the node of this number are changed by this step of the ring
pub record Moves (step : RingStep) (number : ℕ) (old new : WorldState) : Type 0 where
  pub node : Node
  pub links : NodeLinks
  pub here : node_at number old.world.nodes ≡ Some node
  pub moves : Step (ring_of old) step (ring_of new)
  pub new_is : new ≡ with_node (record node { links = links }) old

-- the links are of the node at this index: the same node, listing as many successors at most
abbrev pub FitAt : ℕ → NodeLinks → List Node → Type 0
FitAt place links nodes = (node : Node) → slice_get nodes place ≡ Some node → (links.me ≡ node.links.me) × (links.r ≡ node.links.r)

-- the links of the node at this index are changed
pub record RelinksAt (place : ℕ) (links : NodeLinks) (old new : List Node) : Type 0 where
  pub node : Node
  pub here : slice_get old place ≡ Some node
  pub new_is : new ≡ slice_set old place (record node { links = links })

-- the outcome of a step of the ring
abbrev pub outcome_of_ring : RingDid → Outcome
outcome_of_ring (ring.Joined number) = did.Node number
outcome_of_ring (ring.Candidate candidate) = did.Candidate (option_map (λ (peer : Peer). peer.number) candidate)
outcome_of_ring ring.Done = did.Done

-- the ring did the step, with this outcome
pub record DoesUpkeep (step : RingStep) (number : ℕ) (old : WorldState) (outcome : Outcome) (new : WorldState) : Type 0 where
  pub did : RingDid
  pub told : outcome ≡ outcome_of_ring did
  pub is : Did (ring_of old) step did
  pub moves : Moves step number old new

-- the ring refused the step
pub record RingRefuses (step : RingStep) (old : WorldState) (refusal : Refusal) : Type 0 where
  pub fault : RingFault
  pub told : refusal ≡ refusal_of_ring fault
  pub is : Refused (ring_of old) step fault

abbrev pub RefusesUpkeep : RingStep → WorldState → Refusal → Type 0
RefusesUpkeep step old refused.NotCreated = old.world.nodes ≡ []
RefusesUpkeep step old refusal = (old.world.nodes ≢ []) × RingRefuses step old refusal

abbrev pub UpkeepIs : RingStep → ℕ → WorldState → Result Outcome Refusal → WorldState → Type 0
UpkeepIs step number = DoneOrRefused (DoesUpkeep step number) (RefusesUpkeep step)

-- ---- a crash

-- the world after this node crashed
abbrev pub with_crash : ℕ → WorldState → WorldState
with_crash number old = record old { fates = slice_set old.fates number fate.Crashed }

abbrev pub DoesCrash : ℕ → WorldState → Outcome → WorldState → Type 0
DoesCrash number old did.Done new = CanDepart (ring_of old).members number × (new ≡ with_crash number old)
DoesCrash number old outcome new = ⊥

abbrev pub RefusesCrash : ℕ → WorldState → Refusal → Type 0
RefusesCrash number old refused.NotCreated = old.world.nodes ≡ []
RefusesCrash number old refused.NoSuchNode = (old.world.nodes ≢ []) × (is_member (ring_of old).members number ≡ false)
RefusesCrash number old refused.Unsafe = IsTrue (is_member (ring_of old).members number) × (¬ (CanDepart (ring_of old).members number))
RefusesCrash number old refusal = ⊥

abbrev pub CrashIs : ℕ → WorldState → Result Outcome Refusal → WorldState → Type 0
CrashIs number = DoneOrRefused (DoesCrash number) (RefusesCrash number)

-- ---- a rescue

-- the world after this node was rescued
abbrev pub with_rescue : ℕ → Node → WorldState → WorldState
with_rescue number node old = record (with_node (leaving node) old) { fates = slice_set old.fates number fate.Rescued }

-- the crashed node of this number was rescued
pub record Rescues (number : ℕ) (old new : WorldState) : Type 0 where
  pub node : Node
  pub here : node_at number old.world.nodes ≡ Some node
  pub crashed : is_crashed number old ≡ true
  pub new_is : new ≡ with_rescue number node old

abbrev pub DoesRescue : ℕ → WorldState → Outcome → WorldState → Type 0
DoesRescue number old did.Done new = Rescues number old new
DoesRescue number old outcome new = ⊥

abbrev pub RefusesRescue : ℕ → WorldState → Refusal → Type 0
RefusesRescue number old (refused.Step step_fault.NotCrashed) = HasNode number old × (is_crashed number old ≡ false)
RefusesRescue number old refusal = IsMissing number old refusal

abbrev pub RescueIs : ℕ → WorldState → Result Outcome Refusal → WorldState → Type 0
RescueIs number = DoneOrRefused (DoesRescue number) (RefusesRescue number)
