-- Whether a node can act, what it answers, and its faults as refusals of a step.
use Rattle.std.specs.Prelude.{◌≡◌, ◌≢◌, ◌⊎◌, ℕ, Bool, true, false, None, Some, Result, Ok, Err, [], IsTrue}
use Rattle.chord_handover.specs.Handover.{Part}
use Rattle.chord_ring.specs.Ring.{is_member, CanDepart}
use Rattle.chord_node.specs.declared.fault.CutAtFault.{CutAtFault}
use Rattle.chord_node.specs.declared.fault.CutAtFault.TheVariants as cut
use Rattle.chord_node.specs.declared.fault.MergeFault.{MergeFault}
use Rattle.chord_node.specs.declared.fault.MergeFault.TheVariants as merge
use Rattle.chord_node.specs.declared.fault.GiveFault.{GiveFault}
use Rattle.chord_node.specs.declared.fault.GiveFault.TheVariants as give
use Rattle.chord_node.specs.declared.fault.ResendPartFault.{ResendPartFault}
use Rattle.chord_node.specs.declared.fault.ResendPartFault.TheVariants as resend
use Rattle.chord_node.specs.declared.fault.NotStaying.{NotStaying}
use Rattle.chord_node.specs.declared.fault.RetireFault.{RetireFault}
use Rattle.chord_node.specs.declared.fault.RetireFault.TheVariants as retire
use Rattle.chord_node.specs.Moves.{ResendIs}
use Rattle.chord_model.specs.Node.{Node}
use Rattle.chord_model.specs.World.{node_at}
use Rattle.chord_world.specs.declared.refusal.Refusal.{Refusal}
use Rattle.chord_world.specs.declared.refusal.Refusal.TheVariants as refused
use Rattle.chord_world.specs.declared.refusal.StepFault.TheVariants as step_fault
use Rattle.chord_world.specs.State.{WorldState, ring_of, is_crashed}

-- ---- who acts

-- no node has this number
pub data IsMissing (number : ℕ) (state : WorldState) : Refusal → Type 0 where
  Uncreated : state.world.nodes ≡ [] → IsMissing number state refused.NotCreated
  Missing : state.world.nodes ≢ [] → node_at number state.world.nodes ≡ None → IsMissing number state refused.NoSuchNode

-- a node has this number
pub record HasNode (number : ℕ) (state : WorldState) : Type 0 where
  pub node : Node
  pub here : node_at number state.world.nodes ≡ Some node

abbrev pub ThereIs : ℕ → WorldState → Result (Unit {0}) Refusal → Type 0
ThereIs number state (Ok there) = HasNode number state
ThereIs number state (Err refusal) = IsMissing number state refusal

-- why the node of this number cannot act
pub data CannotAct (number : ℕ) (state : WorldState) : Refusal → Type 0 where
  Is_missing : (refusal : Refusal) → IsMissing number state refusal → CannotAct number state refusal
  Is_crashed : HasNode number state → is_crashed number state ≡ true → CannotAct number state (refused.Step step_fault.Crashed)

-- the node of this number exists and has not crashed
abbrev pub CanAct : ℕ → WorldState → Type 0
CanAct number state = HasNode number state × (is_crashed number state ≡ false)

abbrev pub ActIs : ℕ → WorldState → Result (Unit {0}) Refusal → Type 0
ActIs number state (Ok can) = CanAct number state
ActIs number state (Err refusal) = CannotAct number state refusal

-- ---- a node that answers

-- what a node answers, and the node afterwards
abbrev pub Call : Type 0 → Type 1
Call A = Node → A → Node → Type 0

-- a resent part leaves the node unchanged
abbrev pub Resends : ℕ → ℕ → ℕ → Call (Result Part ResendPartFault)
Resends to number part node result after = ResendIs to number part node result × (after ≡ node)

-- ---- refusals

abbrev pub refusal_of_cut : CutAtFault → Refusal
refusal_of_cut cut.NoSegment = refused.Step step_fault.NoSegment
refusal_of_cut cut.NotInside = refused.Step step_fault.NotInside
refusal_of_cut cut.Memory = refused.Memory

abbrev pub refusal_of_merge : MergeFault → Refusal
refusal_of_merge merge.NoSegment = refused.Step step_fault.NoSegment
refusal_of_merge merge.NotAdjacent = refused.Step step_fault.NotAdjacent
refusal_of_merge merge.Overlap = refused.Step step_fault.Overlap
refusal_of_merge merge.Twice = refused.Step step_fault.Twice
refusal_of_merge merge.Memory = refused.Memory

abbrev pub refusal_of_give : GiveFault → Refusal
refusal_of_give give.NoSegment = refused.Step step_fault.NoSegment
refusal_of_give give.NumbersSpent = refused.Step step_fault.NumbersSpent
refusal_of_give give.Memory = refused.Memory

abbrev pub refusal_of_resend : ResendPartFault → Refusal
refusal_of_resend resend.NoPart = refused.Step step_fault.NoPart
refusal_of_resend resend.Memory = refused.Memory

abbrev pub refusal_of_leave : NotStaying → Refusal
refusal_of_leave fault = refused.Step step_fault.NotStaying

abbrev pub refusal_of_retire : RetireFault → Refusal
refusal_of_retire retire.NotLeaving = refused.Step step_fault.NotLeaving
refusal_of_retire retire.NotEmpty = refused.Step step_fault.NotEmpty

-- ---- a node that the ring needs

-- a member whose departure would make the ring unsafe
abbrev pub IsNeeded : ℕ → WorldState → Type 0
IsNeeded number old = IsTrue (is_member (ring_of old).members number) × (¬ (CanDepart (ring_of old).members number))

-- whether the node is needed: else it is no member, or can depart
abbrev pub NeededIs : ℕ → WorldState → Bool → Type 0
NeededIs number old true = IsNeeded number old
NeededIs number old false = (is_member (ring_of old).members number ≡ false) ⊎ CanDepart (ring_of old).members number
