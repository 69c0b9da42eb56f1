-- How a call is sent.
use Rattle.std.specs.Prelude.{◌≡◌, ℕ, Some, Result, Ok, Err, List, slice_get, slice_set}
use Rattle.std.specs.declared.alloc.AllocError.{AllocError}
use Rattle.chord_map.specs.declared.request.Request.{Request}
use Rattle.chord_caller.specs.declared.ask.Ask.{Ask}
use Rattle.chord_caller.specs.declared.fault.SubmitFault.TheVariants.{Memory}
use Rattle.chord_caller.specs.Caller.{Caller}
use Rattle.chord_caller.specs.Answers.{SubmitIs}
use Rattle.chord_world.specs.declared.refusal.Refusal.{Refusal}
use Rattle.chord_world.specs.State.{WorldState}
use Rattle.chord_world.specs.Steps.{RefusesCall, RefusesSubmit}

-- the call can fail for memory alone, or is refused with this
abbrev pub MaySubmit : ℕ → ℕ → Request → WorldState → Result (Unit {0}) Refusal → Type 0
MaySubmit caller via request state (Ok may) = RefusesCall caller via request state Memory
MaySubmit caller via request state (Err refusal) = RefusesSubmit caller via request state refusal

-- the caller at this index may submit the request, unless memory runs out
pub record CanSubmit (place : ℕ) (request : Request) (callers : List Caller) : Type 0 where
  pub core : Caller
  pub here : slice_get callers place ≡ Some core
  pub can : SubmitIs request core (Err Memory) core

-- the caller at this index did this; the list has the caller afterwards
pub record CallerDid (place : ℕ) (Did : Caller → Caller → Type 0) (old new : List Caller) : Type 0 where
  pub core : Caller
  pub after : Caller
  pub here : slice_get old place ≡ Some core
  pub does : Did core after
  pub new_is : new ≡ slice_set old place after

-- it did this, or memory ran out and nothing changed
abbrev pub CallerDoes : {A : Type 0} → ℕ → (A → Caller → Caller → Type 0) → List Caller → Result A AllocError → List Caller → Type 0
CallerDoes place Does old (Ok answer) new = CallerDid place (Does answer) old new
CallerDoes place Does old (Err refused) new = new ≡ old

-- the caller at this index submits the request
abbrev pub SubmitsAt : ℕ → Request → List Caller → Result Ask AllocError → List Caller → Type 0
SubmitsAt place request old result new = CallerDoes place (λ (ask : Ask) core after. SubmitIs request core (Ok ask) after) old result new
