-- What a service asks an operator, and what it may be told. Source: our own.
use Rattle.std.specs.Prelude.{ℕ, ⊤, Result}
use Rattle.std.specs.declared.alloc.AllocError.{AllocError}
use Rattle.chord_ident.specs.declared.id.Id.{Id}
use Rattle.chord_app_operator.specs.declared.sight.health.HealthSight.{HealthSight}
use Rattle.chord_app_operator.specs.declared.sight.ring.RingSight.{RingSight}
use Rattle.chord_app_operator.specs.declared.request.calls.JoinRequest.{JoinRequest}
use Rattle.chord_app_operator.specs.declared.request.calls.CrashRequest.{CrashRequest}
use Rattle.chord_app_operator.specs.declared.request.calls.PairsRequest.{PairsRequest}
use Rattle.chord_app_operator.specs.declared.operator.refusals.JoinRefusal.{JoinRefusal}
use Rattle.chord_app_operator.specs.declared.operator.refusals.LeaveRefusal.{LeaveRefusal}
use Rattle.chord_app_operator.specs.declared.operator.refusals.CrashRefusal.{CrashRefusal}
use Rattle.chord_app_operator.specs.declared.operator.refusals.RescueRefusal.{RescueRefusal}
use Rattle.chord_app_operator.specs.declared.operator.holder.Holder.{Holder}
use Rattle.chord_app_operator.specs.declared.operator.pairs.PairsPage.{PairsPage}

-- a question to an operator
pub data Question : Type 0 where
  Sight : Question
  Health : Question
  Join : JoinRequest → Question
  Leave : ℕ → Question
  Crash : CrashRequest → Question
  Rescue : ℕ → Question
  Hold : Id → Question
  ReadPairs : PairsRequest → Question
  Stop : Question

-- an operator's answer
pub data Answer : Type 0 where
  Seen : Result RingSight AllocError → Answer
  HealthTold : HealthSight → Answer
  Joined : Result ℕ JoinRefusal → Answer
  BeganToLeave : Result ⊤ LeaveRefusal → Answer
  HasCrashed : Result ⊤ CrashRefusal → Answer
  RescueBegan : Result ⊤ RescueRefusal → Answer
  Held : Holder → Answer
  PairsRead : Result PairsPage AllocError → Answer
  Stopping : Answer
