-- What a store of any kind has. Source: our own.
use Rattle.std.specs.Prelude.{ℕ, ◌-◌, ◌^◌, List}
use Rattle.chord_map.specs.declared.pair.Pair.{Pair}
use Rattle.chord_app_plan.specs.declared.node.PlanNode.{PlanNode}
use Rattle.chord_app_serve.specs.Made as made
use Rattle.chord_app.specs.declared.kind_store.KindStore.{KindStore}
use Rattle.chord_app.specs.declared.kind_store.KindStore.TheVariants as store

-- its pairs
abbrev pub content_of : KindStore → List Pair
content_of (store.Tree pairs) = pairs
content_of (store.List capped) = capped.pairs

-- the most pairs that it may have; a tree counts them by 64 bits
abbrev pub limit_of : KindStore → ℕ
limit_of (store.Tree pairs) = 2 ^ 64 - 1
limit_of (store.List capped) = capped.limit

-- the most pairs that the store of a node of a plan may have
abbrev pub limit_planned : PlanNode → ℕ
limit_planned node = made.limit_of node.store
