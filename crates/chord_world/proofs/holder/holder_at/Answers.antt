use Rattle.std.proofs.Common.{◌∙◌, sym, subst, refl}
use Rattle.std.specs.Prelude.{Contains}
use Rattle.chord_model.specs.declared.holder.Holder.TheVariants as holder
use Rattle.chord_model.specs.Node.{segment_with}
use Rattle.chord_world.specs.Holding.{holders_at}
use Rattle.chord_world.proofs.Holders.{node_found, some_way_found, none_way_found}
use Rattle.chord_world.proofs.holder.holder_at.Goals as goal

pub returns-then-holds-clause-found : goal.returns-then-holds-clause-found
returns-then-holds-clause-found g c =
    let P = Contains (holders_at c.args.id.number c.args.nodes.now c.args.node.now) in
    subst (λ n. P (holder.Node n)) (sym c.number.ensures)
    (node_found c.args.id.number c.args.nodes.now c.args.node.now (segment_with c.args.id.number c.args.node.now.held) refl (sym c.holds.ensures ∙ c.if-holds.true))

pub returns-clause-found : goal.returns-clause-found
returns-clause-found g c = some_way_found c.args.id.number c.args.nodes.now c.args.node.now c.find_under_way.result c.find_under_way.ensures.found

pub returns-clause-none : goal.returns-clause-none
returns-clause-none g c =
    none_way_found c.args.id.number c.args.nodes.now c.args.node.now c.find_under_way.result (sym c.holds.ensures ∙ c.if-holds.false) c.find_under_way.ensures.none
