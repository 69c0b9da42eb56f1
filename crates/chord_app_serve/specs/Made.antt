-- The stores of nodes that join while a server runs: of the kind that `spare` of the plan names.
-- Source: our own.
use Rattle.std.specs.Prelude.{◌≡◌, ◌↔◌, ℕ, ◌-◌, ◌^◌, ◌==◌, Bool, true, false, Option, Some, None, Result, Err}
use Rattle.chord_app_operator.specs.declared.operator.refusals.JoinRefusal.{JoinRefusal}
use Rattle.chord_app_operator.specs.declared.operator.refusals.JoinRefusal.TheVariants.{NoStore}
use Rattle.chord_app_operator.specs.declared.request.calls.JoinRequest.{JoinRequest}
use Rattle.chord_app_operator.specs.declared.request.store_kind.StoreKind.{StoreKind}
use Rattle.chord_app_operator.specs.declared.request.store_kind.StoreKind.TheVariants as kind
use Rattle.chord_app_plan.specs.declared.store_kind.StoreKind.{StoreKind as PlanStore}
use Rattle.chord_app_plan.specs.declared.store_kind.StoreKind.TheVariants as plan

-- the most pairs of a store of this kind
abbrev pub limit_of : PlanStore → ℕ
limit_of (plan.Capped limit) = limit
limit_of other = 2 ^ 64 - 1

-- a store of this kind is one of the kind, and of the limit if there is one, that is asked for
abbrev pub fits_spare : StoreKind → Option ℕ → PlanStore → Bool
fits_spare kind.Tree limit plan.Tree = true
fits_spare kind.List limit plan.List = true
fits_spare kind.List limit plan.Noted = true
fits_spare kind.Capped None (plan.Capped most) = true
fits_spare kind.Capped (Some wanted) (plan.Capped most) = wanted == most
fits_spare kind limit other = false

-- NoStore is told exactly where stores of this kind are none that the node asks for
abbrev pub NoStoreIs : JoinRequest → PlanStore → Result ℕ JoinRefusal → Type 0
NoStoreIs request spare result = (result ≡ Err NoStore) ↔ (fits_spare request.store request.limit spare ≡ false)
