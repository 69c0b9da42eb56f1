-- What a run of steps answers.
use Rattle.std.specs.Prelude.{◌≡◌, ◌≢◌, ℕ, Option, None, Some, Result, Ok, Err, List, [], ◌∷◌, ◌++◌, drop}
use Rattle.std.specs.Borrow.{Bor}
use Rattle.chord_map.specs.declared.done.Done.{Done}
use Rattle.chord_caller.specs.Caller.{Caller}
use Rattle.chord_model.specs.World.{caller_at}
use Rattle.chord_world.specs.declared.outcome.Outcome.{Outcome}
use Rattle.chord_world.specs.declared.refusal.Refusal.{Refusal}
use Rattle.chord_world.specs.declared.runs.StepResult.{StepResult}
use Rattle.chord_world.specs.declared.runs.StepResult.TheVariants.{Did, Refused}
use Rattle.chord_world.specs.declared.step.Step.{Step}
use Rattle.chord_world.specs.declared.step.Step.TheVariants.{Create, Join}
use Rattle.chord_ring.specs.Ring.{IsSafe, IsOneRing}
use Rattle.chord_world.specs.State.{WorldState, ring_of}
use Rattle.chord_world.specs.Steps.{StepIs}

-- the replies that the caller took, if there is such a caller
abbrev pub MineIs : ℕ → WorldState → Option (Bor (List Done)) → Type 0
MineIs number state None = caller_at number state.world.callers ≡ None
MineIs number state (Some mine) = (caller : Caller) × (caller_at number state.world.callers ≡ Some caller) × (mine.now ≡ caller.mine)

-- the calls that notes told the caller of, if there is such a caller
abbrev pub ToldIs : ℕ → WorldState → Option (Bor (List Done)) → Type 0
ToldIs number state None = caller_at number state.world.callers ≡ None
ToldIs number state (Some told) = (caller : Caller) × (caller_at number state.world.callers ≡ Some caller) × (told.now ≡ caller.told)

-- once there is a node: each member's list has a live entry, there is a principal, and the
-- principals are on one ring
abbrev pub StandsOnOneRing : WorldState → Type 0
StandsOnOneRing state = state.world.nodes ≢ [] → IsSafe (ring_of state).members × IsOneRing (ring_of state).members

-- an answer as a result
abbrev pub result_of : StepResult → Result Outcome Refusal
result_of (Did outcome) = Ok outcome
result_of (Refused refusal) = Err refusal

-- the limits of the stores that are left after a step
abbrev pub limits_left : Step → StepResult → List ℕ → List ℕ
limits_left (Create id) (Did outcome) limits = drop 1 limits
limits_left (Join id behind) (Did outcome) limits = drop 1 limits
limits_left step answer limits = limits

-- From a world and stores with these limits, the steps got these answers in order, and ended in
-- this world with stores of these limits left.
pub data Ran (limits : List ℕ) (first : WorldState) : List Step → List StepResult → List ℕ → WorldState → Type 0 where
  Nothing : Ran limits first [] [] limits first
  Then : {steps : List Step} {answers : List StepResult} {left : List ℕ} {middle : WorldState} (step : Step) (answer : StepResult) (last : WorldState)
      → Ran limits first steps answers left middle → StepIs step left middle (result_of answer) last
      → Ran limits first (steps ++ step ∷ []) (answers ++ answer ∷ []) (limits_left step answer left) last
