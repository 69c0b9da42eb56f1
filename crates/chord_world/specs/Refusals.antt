-- The refusals of steps, and the answer to a step.
use Rattle.std.specs.Prelude.{◌≡◌, ℕ, Result, Ok, Err}
use Rattle.chord_caller.specs.declared.fault.SubmitFault.{SubmitFault}
use Rattle.chord_caller.specs.declared.fault.SubmitFault.TheVariants.{Bad, WindowFull, NumbersSpent, Memory as NoMemory}
use Rattle.chord_ring.specs.declared.ring_fault.RingFault.{RingFault}
use Rattle.chord_ring.specs.declared.ring_fault.RingFault.TheVariants as ring
use Rattle.chord_ring.specs.declared.steps.StabiliseFault.TheVariants.{HeadDead, NotHead}
use Rattle.chord_ring.specs.declared.steps.CandidateFault.TheVariants.{Dead, NotCloser}
use Rattle.chord_ring.specs.declared.steps.DropFault.TheVariants.{HeadLive, Empty}
use Rattle.chord_world.specs.declared.outcome.Outcome.{Outcome}
use Rattle.chord_world.specs.declared.refusal.Refusal.{Refusal}
use Rattle.chord_world.specs.declared.refusal.Refusal.TheVariants as refused
use Rattle.chord_world.specs.declared.refusal.StepFault.TheVariants as step_fault
use Rattle.chord_world.specs.State.{WorldState}

-- the number of a refusal in the order of the checks
abbrev pub number_of : Refusal → ℕ
number_of refused.AlreadyCreated = 1
number_of refused.NotCreated = 2
number_of refused.NoSuchNode = 3
number_of refused.NoSuchCaller = 4
number_of refused.NoSuchMessage = 5
number_of refused.IdTaken = 6
number_of refused.NoStore = 7
number_of refused.Unsafe = 8
number_of (refused.Step fault) = 9
number_of refused.Memory = 10

-- a caller's refusal to submit, as the refusal of a step
abbrev pub refusal_of : SubmitFault → Refusal
refusal_of (Bad fault) = refused.Step (step_fault.Request fault)
refusal_of WindowFull = refused.Step step_fault.WindowFull
refusal_of NumbersSpent = refused.Step step_fault.NumbersSpent
refusal_of NoMemory = refused.Memory

-- a ring's refusal, as the refusal of a step
abbrev pub refusal_of_ring : RingFault → Refusal
refusal_of_ring ring.NoSuchNode = refused.NoSuchNode
refusal_of_ring ring.IdTaken = refused.IdTaken
refusal_of_ring ring.NotBetween = refused.Step step_fault.NotBetween
refusal_of_ring (ring.Stabilise HeadDead) = refused.Step step_fault.HeadDead
refusal_of_ring (ring.Stabilise NotHead) = refused.Step step_fault.NotHead
refusal_of_ring (ring.Candidate Dead) = refused.Step step_fault.Dead
refusal_of_ring (ring.Candidate NotCloser) = refused.Step step_fault.NotCloser
refusal_of_ring (ring.Drop HeadLive) = refused.Step step_fault.HeadLive
refusal_of_ring (ring.Drop Empty) = refused.Step step_fault.Empty
refusal_of_ring ring.Memory = refused.Memory

-- the step was done with this outcome; or it is refused and nothing changes
abbrev pub DoneOrRefused : (WorldState → Outcome → WorldState → Type 0) → (WorldState → Refusal → Type 0) → WorldState → Result Outcome Refusal → WorldState → Type 0
DoneOrRefused Does Refuses old (Ok outcome) new = Does old outcome new
DoneOrRefused Does Refuses old (Err refusal) new = Refuses old refusal × (new ≡ old)
