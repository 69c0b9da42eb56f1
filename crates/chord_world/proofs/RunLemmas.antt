-- Lists of steps.
use Rattle.std.proofs.Common.{◌≡◌, ℕ, Result, Ok, Err, List, [], ◌∷◌, ◌++◌, map, sym, ◌∙◌, ap, subst}
use Rattle.std.specs.Prelude.{All}
use Rattle.std.proofs.lemmas.List.{drop-map}
use Rattle.std.proofs.lemmas.List.Elements.{All-drop}
use mathlib.Core.Logic.{∥∥₁_map}
use Rattle.chord_model.specs.World.{World, Run}
use Rattle.chord_model.specs.World.Run.{Stays, Goes_on}
use Rattle.chord_world.specs.declared.outcome.Outcome.{Outcome}
use Rattle.chord_world.specs.declared.refusal.Refusal.{Refusal}
use Rattle.chord_world.specs.declared.runs.StepResult.{StepResult}
use Rattle.chord_world.specs.declared.runs.StepResult.TheVariants.{Did, Refused}
use Rattle.chord_world.specs.declared.step.Step.{Step}
use Rattle.chord_world.specs.declared.step.Step.TheVariants.{Create, Join, OpenCaller, Submit, Resend, GiveUp, Deliver, Show, Meet, Cut, Merge, Give, SendPart, Leave, Retire, Stabilise, Candidate, DropDead, Rectify, Crash, Rescue, Finger}
use Rattle.chord_world.specs.State.{WorldState}
use Rattle.chord_world.specs.Steps.{StepIs, Advances, AdvancesBy, CreateLeaves, StoresLeft}
use Rattle.chord_world.specs.Runs.{Ran, result_of, limits_left}
use Rattle.chord_world.specs.Runs.Ran.{Then}

-- one more step
pub ran_more : (limits : List ℕ) (first : WorldState) (steps steps' : List Step) (answers answers' : List StepResult) (left left' : List ℕ) (middle last : WorldState) (step : Step) (answer : StepResult) (result : Result Outcome Refusal)
    → Ran limits first steps answers left middle → StepIs step left middle result last → result_of answer ≡ result
    → steps' ≡ steps ++ step ∷ [] → answers' ≡ answers ++ answer ∷ [] → left' ≡ limits_left step answer left → Ran limits first steps' answers' left' last
ran_more limits first steps steps' answers answers' left left' middle last step answer result ran did e s a l =
    rw (s, a, l) (Then step answer last ran (subst (λ r. StepIs step left middle r last) (sym e) did))

-- the limits of the stores that are left
limits_by : {S : Type 0} (f : S → ℕ) (step : Step) (answer : StepResult) (stores left : List S) → StoresLeft step (result_of answer) stores left → map f left ≡ limits_left step answer (map f stores)
limits_by f (Create id) (Did outcome) stores left e = ap (map f) e ∙ sym (drop-map f 1 stores)
limits_by f (Create id) (Refused refusal) stores left e = ap (map f) e
limits_by f (Join id behind) (Did outcome) stores left e = ap (map f) e ∙ sym (drop-map f 1 stores)
limits_by f (Join id behind) (Refused refusal) stores left e = ap (map f) e
limits_by f (OpenCaller window) (Did outcome) stores left e = ap (map f) e
limits_by f (OpenCaller window) (Refused refusal) stores left e = ap (map f) e
limits_by f (Submit caller via request) (Did outcome) stores left e = ap (map f) e
limits_by f (Submit caller via request) (Refused refusal) stores left e = ap (map f) e
limits_by f (Deliver message) (Did outcome) stores left e = ap (map f) e
limits_by f (Deliver message) (Refused refusal) stores left e = ap (map f) e
limits_by f (Resend caller via number) (Did outcome) stores left e = ap (map f) e
limits_by f (Resend caller via number) (Refused refusal) stores left e = ap (map f) e
limits_by f (GiveUp caller number) (Did outcome) stores left e = ap (map f) e
limits_by f (GiveUp caller number) (Refused refusal) stores left e = ap (map f) e
limits_by f (Show caller) (Did outcome) stores left e = ap (map f) e
limits_by f (Show caller) (Refused refusal) stores left e = ap (map f) e
limits_by f (Meet caller message) (Did outcome) stores left e = ap (map f) e
limits_by f (Meet caller message) (Refused refusal) stores left e = ap (map f) e
limits_by f (Cut node place at) (Did outcome) stores left e = ap (map f) e
limits_by f (Cut node place at) (Refused refusal) stores left e = ap (map f) e
limits_by f (Merge node place behind) (Did outcome) stores left e = ap (map f) e
limits_by f (Merge node place behind) (Refused refusal) stores left e = ap (map f) e
limits_by f (Give node place to) (Did outcome) stores left e = ap (map f) e
limits_by f (Give node place to) (Refused refusal) stores left e = ap (map f) e
limits_by f (SendPart node to number part) (Did outcome) stores left e = ap (map f) e
limits_by f (SendPart node to number part) (Refused refusal) stores left e = ap (map f) e
limits_by f (Leave node) (Did outcome) stores left e = ap (map f) e
limits_by f (Leave node) (Refused refusal) stores left e = ap (map f) e
limits_by f (Retire node) (Did outcome) stores left e = ap (map f) e
limits_by f (Retire node) (Refused refusal) stores left e = ap (map f) e
limits_by f (Stabilise node head) (Did outcome) stores left e = ap (map f) e
limits_by f (Stabilise node head) (Refused refusal) stores left e = ap (map f) e
limits_by f (Candidate node peer) (Did outcome) stores left e = ap (map f) e
limits_by f (Candidate node peer) (Refused refusal) stores left e = ap (map f) e
limits_by f (DropDead node) (Did outcome) stores left e = ap (map f) e
limits_by f (DropDead node) (Refused refusal) stores left e = ap (map f) e
limits_by f (Rectify node notifier) (Did outcome) stores left e = ap (map f) e
limits_by f (Rectify node notifier) (Refused refusal) stores left e = ap (map f) e
limits_by f (Crash node) (Did outcome) stores left e = ap (map f) e
limits_by f (Crash node) (Refused refusal) stores left e = ap (map f) e
limits_by f (Rescue node) (Did outcome) stores left e = ap (map f) e
limits_by f (Rescue node) (Refused refusal) stores left e = ap (map f) e
limits_by f (Finger node finger to) (Did outcome) stores left e = ap (map f) e
limits_by f (Finger node finger to) (Refused refusal) stores left e = ap (map f) e

pub limits_after : {S : Type 0} (f : S → ℕ) (step : Step) (answer : StepResult) (result : Result Outcome Refusal) (stores left : List S) → result_of answer ≡ result
    → StoresLeft step result stores left → map f left ≡ limits_left step answer (map f stores)
limits_after f step answer result stores left e h = limits_by f step answer stores left (subst (λ r. StoresLeft step r stores left) (sym e) h)

-- the run goes on by the step, or stays at its world
run_by : (first : World) (middle last : WorldState) (result : Result Outcome Refusal) → ∥ Run first middle.world ∥₁ → Advances middle result last → ∥ Run first last.world ∥₁
run_by first middle last (Ok outcome) run step = ∥∥₁_map run (λ r. Goes_on r step)
run_by first middle last (Err refusal) run same = subst (λ (w : WorldState). ∥ Run first w.world ∥₁) (sym same) run

pub run_more : (first : World) (middle last : WorldState) (step : Step) (result : Result Outcome Refusal) → ∥ Run first middle.world ∥₁ → AdvancesBy step middle result last → ∥ Run first last.world ∥₁
run_more first middle last (Crash node) result run same = subst (λ w. ∥ Run first w ∥₁) (sym same) run
run_more first middle last (Create id) result run step = run_by first middle last result run step
run_more first middle last (Join id behind) result run step = run_by first middle last result run step
run_more first middle last (OpenCaller window) result run step = run_by first middle last result run step
run_more first middle last (Submit caller via request) result run step = run_by first middle last result run step
run_more first middle last (Resend caller via number) result run step = run_by first middle last result run step
run_more first middle last (GiveUp caller number) result run step = run_by first middle last result run step
run_more first middle last (Deliver message) result run step = run_by first middle last result run step
run_more first middle last (Show caller) result run step = run_by first middle last result run step
run_more first middle last (Meet caller message) result run step = run_by first middle last result run step
run_more first middle last (Cut node place at) result run step = run_by first middle last result run step
run_more first middle last (Merge node place behind) result run step = run_by first middle last result run step
run_more first middle last (Give node place to) result run step = run_by first middle last result run step
run_more first middle last (SendPart node to number part) result run step = run_by first middle last result run step
run_more first middle last (Leave node) result run step = run_by first middle last result run step
run_more first middle last (Retire node) result run step = run_by first middle last result run step
run_more first middle last (Stabilise node head) result run step = run_by first middle last result run step
run_more first middle last (Candidate node peer) result run step = run_by first middle last result run step
run_more first middle last (DropDead node) result run step = run_by first middle last result run step
run_more first middle last (Rectify node notifier) result run step = run_by first middle last result run step
run_more first middle last (Rescue node) result run step = run_by first middle last result run step
run_more first middle last (Finger node finger to) result run step = run_by first middle last result run step

pub run_none : (first : World) → ∥ Run first first ∥₁
run_none first = ∣ Stays ∣₁

-- a property of all stores holds of those that are left
pub vacant_left : {S : Type 0} (P : S → Type 0) (result : Result Outcome Refusal) (stores left : List S) → CreateLeaves result stores left → All P stores → All P left
vacant_left P (Ok outcome) stores left e all = subst (All P) (sym e) (All-drop P 1 stores all)
vacant_left P (Err refusal) stores left e all = subst (All P) (sym e) all

pub vacant_after : {S : Type 0} (P : S → Type 0) (step : Step) (result : Result Outcome Refusal) (stores left : List S) → StoresLeft step result stores left → All P stores → All P left
vacant_after P (Create id) result stores left e all = vacant_left P result stores left e all
vacant_after P (Join id behind) result stores left e all = vacant_left P result stores left e all
vacant_after P (OpenCaller window) result stores left e all = subst (All P) (sym e) all
vacant_after P (Submit caller via request) result stores left e all = subst (All P) (sym e) all
vacant_after P (Deliver message) result stores left e all = subst (All P) (sym e) all
vacant_after P (Resend caller via number) result stores left e all = subst (All P) (sym e) all
vacant_after P (GiveUp caller number) result stores left e all = subst (All P) (sym e) all
vacant_after P (Show caller) result stores left e all = subst (All P) (sym e) all
vacant_after P (Meet caller message) result stores left e all = subst (All P) (sym e) all
vacant_after P (Cut node place at) result stores left e all = subst (All P) (sym e) all
vacant_after P (Merge node place behind) result stores left e all = subst (All P) (sym e) all
vacant_after P (Give node place to) result stores left e all = subst (All P) (sym e) all
vacant_after P (SendPart node to number part) result stores left e all = subst (All P) (sym e) all
vacant_after P (Leave node) result stores left e all = subst (All P) (sym e) all
vacant_after P (Retire node) result stores left e all = subst (All P) (sym e) all
vacant_after P (Stabilise node head) result stores left e all = subst (All P) (sym e) all
vacant_after P (Candidate node peer) result stores left e all = subst (All P) (sym e) all
vacant_after P (DropDead node) result stores left e all = subst (All P) (sym e) all
vacant_after P (Rectify node notifier) result stores left e all = subst (All P) (sym e) all
vacant_after P (Crash node) result stores left e all = subst (All P) (sym e) all
vacant_after P (Rescue node) result stores left e all = subst (All P) (sym e) all
vacant_after P (Finger node finger to) result stores left e all = subst (All P) (sym e) all
