use Rattle.std.proofs.Common.{◌≡◌, map, take}
use Rattle.chord_app.specs.Kinds.{limit_of, limit_planned}
use Rattle.chord_app.proofs.kind_store.stores_for.Given as goal

-- each node so far has its store
abbrev pub invariant-loop-node : goal.invariant-loop-node
invariant-loop-node l = map limit_of l.stores.items ≡ map limit_planned (take l.node-index l.plan.nodes.items)
