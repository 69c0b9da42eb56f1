use Rattle.std.proofs.Common.{◌∙◌, ◌<◌, ◌^◌, ◌++◌, ◌∷◌, [], List, ap, length, rules, sym, subst}
use Rattle.std.specs.Prelude.{Contains}
use Rattle.chord_ident.specs.declared.id.Id.{Id}
use Rattle.chord_links.specs.declared.peer.Peer.{Peer}
use Rattle.chord_live_steps.proofs.Counting.{join_may, node_registered}
use Rattle.chord_live_steps.specs.Counts.{Counts}
use Rattle.chord_live_steps.specs.Registered.{IsRegister}
use Rattle.chord_model.specs.Node.{Node}
use Rattle.chord_table.specs.Views.{Assembled, nodes_among}
use Rattle.chord_live_steps.proofs.numbers.Numbers.join.Goals as goal

pub join_node-seat-requires-clause-may : goal.join_node-seat-requires-clause-may
join_node-seat-requires-clause-may g c =
    let low : c.args.links.me.id.number < 2 ^ 128 = search rules in
    join_may c.self.inside.registrar.register c.args.pred.now.node _ c.self.inside.callers c.self.inside.ids.items c.self.inside.premise c.args.links _ c.self.invariant.2
    (c.requires.own ∙ sym (ap (λ (counts : Counts). counts.nodes) c.self.view_is)) low
    (subst (λ (ids : List Id). Contains ids c.args.links.me.id → ⊥) (sym (ap (λ (counts : Counts). counts.ids) c.self.view_is)) c.requires.unused)
    c.requires.live c.requires.between c.requires.behind c.newborn-node.ensures

pub invariant_of-self-2 : goal.invariant_of-self-2
invariant_of-self-2 g c =
    let i = c.self.invariant in
    let old = c.self.inside.registrar.register in
    let ids = c.self.inside.ids.items in
    let admitted = c.join_node-seat.ensures.admitted in
    let next = ap (λ (p : Peer). p.number) c.me-me.ensures ∙ c.requires.own ∙ sym (ap (λ (counts : Counts). counts.nodes) c.self.view_is) in
    let register = ap (λ (a : Assembled). a.register) admitted
    ∙ ap (λ (n : Node). record old { nodes = old.nodes ++ n.number ∷ []; ids = old.ids ++ n.links.me.id.number ∷ [] }) c.newborn-node.ensures
    ∙ ap (λ (p : Peer). record old { nodes = old.nodes ++ p.number ∷ []; ids = old.ids ++ p.id.number ∷ [] }) (sym c.me-me.ensures) in
    let items = c.push_reserved.ensures.items ∙ ap (λ (l : List Id). l ++ c.me-me.result.id ∷ []) c.reserve.ensures.items in
    let now = node_registered old _ c.self.inside.callers c.me-me.result.number ids c.self.inside.premise c.me-me.result.id i.2 next register in (
      i.0 ∙ ap (λ (a : Assembled). length (nodes_among a.taken)) (sym admitted),
      i.1,
      subst (λ (l : List Id). IsRegister c.self.inside.callers l c.self.inside.premise c.join_node-seat.new.self.register) (sym items) now,
    )
