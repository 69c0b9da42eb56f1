-- How a node of a ring is shown to its operator, and what the operator is told. Source: our own.
use Rattle.std.specs.Prelude.{◌≡◌, ℕ, ◌≤◌, All, false, slice_get, List, Option, Some, None, Ok, Err, IfOk}
use Rattle.chord_app_operator.specs.Questions.{Question, Sight, Crash, Join, ReadPairs, Answer, Seen, Joined, HasCrashed, PairsRead}
use Rattle.chord_app_operator.specs.declared.operator.holder.Holder.{Holder}
use Rattle.chord_app_operator.specs.declared.operator.holder.Holder.TheVariants as holder
use Rattle.chord_app_operator.specs.declared.operator.refusals.CrashRefusal.TheVariants as crash
use Rattle.chord_app_operator.specs.declared.request.store_kind.StoreKind.{StoreKind}
use Rattle.chord_app_operator.specs.declared.request.store_kind.StoreKind.TheVariants as kind
use Rattle.chord_app_operator.specs.declared.sight.node.StoredNode.{StoredNode}
use Rattle.chord_app_plan.specs.declared.node.PlanNode.{PlanNode}
use Rattle.chord_app_plan.specs.declared.plan.Plan.{Plan}
use Rattle.chord_app_plan.specs.declared.store_kind.StoreKind.{StoreKind as PlanStore}
use Rattle.chord_app_plan.specs.declared.store_kind.StoreKind.TheVariants as plan
use Rattle.chord_app_serve.specs.Made.{NoStoreIs}
use Rattle.chord_app_serve.specs.ReadPairs.{IsRead}
use Rattle.chord_live_ring.specs.Sights.{IsSightOf}
use Rattle.chord_live_types.specs.declared.settings.Settings.{Settings}
use Rattle.chord_model.specs.declared.holder.Holder.{Holder as NodeHolder}
use Rattle.chord_model.specs.declared.holder.Holder.TheVariants as told

-- the kind of a node's store: one that notes its count is a list
abbrev pub store_shown : PlanStore → StoreKind
store_shown plan.Tree = kind.Tree
store_shown plan.List = kind.List
store_shown plan.Noted = kind.List
store_shown (plan.Capped limit) = kind.Capped

-- the kind of a node's store: as the plan says of the node, and of one that the plan does not have
-- as it says of those that join
abbrev pub kind_of : Option PlanNode → PlanStore → PlanStore
kind_of None spare = spare
kind_of (Some node) spare = node.store

-- the kind of the store of the node of a number
abbrev pub store_of : Plan → ℕ → StoreKind
store_of p number = store_shown (kind_of (slice_get p.nodes.items number) p.spare)

-- who holds an identifier, as it was told before and as one more node tells it: a node that holds
-- it counts before a handover of it
abbrev pub holder_with : Holder → Option NodeHolder → Holder
holder_with (holder.Node node) next = holder.Node node
holder_with known (Some (told.Node node)) = holder.Node node
holder_with known (Some (told.UnderWay from to number)) = holder.Handover from to number
holder_with known None = known

-- the node of this number of some reachable world, of which the theorem holds, looks so, and has a
-- store of this kind
abbrev pub IsShownAs : (number : ℕ) (store : StoreKind) → StoredNode → Type 0
IsShownAs number store shown = IsSightOf number shown.sight × (shown.store ≡ store)

-- each of the nodes is shown as one of some number looks, with the kind of its store
abbrev pub AreShown : (ℕ → StoreKind) → List StoredNode → Type 0
AreShown stores nodes = All (λ shown. (number : ℕ) × IsShownAs number (stores number) shown) nodes

-- What the operator of a ring of a plan with these settings may be told. The ring is shown with
-- nodes, each as one of a reachable world, and pairs are those of one. A node that joins has a
-- number that is not 0; NoStore is told exactly where the plan's kind is not the one asked for.
-- Unsafe is not told where a crash is forced.
abbrev pub Tells : Settings → Plan → Question → Answer → Type 0
Tells settings p Sight (Seen (Ok sight)) = (sight.successors ≡ settings.successors) × (sight.slots ≡ settings.slots) × (sight.callers.all ≡ settings.callers) × AreShown (store_of p) sight.nodes.items
Tells settings p (Join request) (Joined result) = IfOk result (λ number. 1 ≤ number) × NoStoreIs request p.spare result
Tells settings p (Crash request) (HasCrashed (Err crash.Unsafe)) = request.is_forced ≡ false
Tells settings p (ReadPairs request) (PairsRead (Ok page)) = IsRead request page
Tells settings p question answer = Unit {0}
