use Rattle.std.proofs.Common.{◌∙◌, ◌<◌, ◌^◌, ◌++◌, ◌∷◌, [], List, ap, length, rules, subst, sym}
use Rattle.chord_live_steps.proofs.Counting.{founder_may, node_registered}
use Rattle.chord_ident.specs.declared.id.Id.{Id}
use Rattle.chord_live_steps.specs.Counts.{Counts}
use Rattle.chord_live_steps.specs.Registered.{IsRegister}
use Rattle.chord_model.specs.Node.{Node}
use Rattle.chord_table.specs.Views.{Assembled, nodes_among}
use Rattle.chord_live_steps.proofs.numbers.Numbers.create.Goals as goal

pub admit_node-seat-requires-clause-may : goal.admit_node-seat-requires-clause-may
admit_node-seat-requires-clause-may g c =
    let low : c.args.id.number < 2 ^ 128 = search rules in
    founder_may c.self.inside.registrar.register.nodes (length c.self.inside.ids.items) _ c.args.id c.args.r _ (c.self.invariant.2.nodes_are) (ap (λ (counts : Counts). counts.nodes) c.self.view_is ∙ c.requires.none)
    low c.requires.low c.in_ok-node.ensures.ok

pub invariant_of-self-2 : goal.invariant_of-self-2
invariant_of-self-2 g c =
    let i = c.self.invariant in
    let old = c.self.inside.registrar.register in
    let admitted = c.admit_node-seat.ensures.admitted in
    let register = ap (λ (a : Assembled). a.register) admitted
    ∙ ap (λ (n : Node). record old { nodes = old.nodes ++ n.number ∷ []; ids = old.ids ++ n.links.me.id.number ∷ [] }) c.in_ok-node.ensures.ok in
    let none = sym (ap (λ (counts : Counts). counts.nodes) c.self.view_is ∙ c.requires.none) in
    let items = c.push_reserved.ensures.items ∙ ap (λ (l : List Id). l ++ c.args.id ∷ []) c.reserve.ensures.items in
    let now = node_registered old _ c.self.inside.callers 0 c.self.inside.ids.items c.self.inside.premise c.args.id i.2 none register in (
      i.0 ∙ ap (λ (a : Assembled). length (nodes_among a.taken)) (sym admitted),
      i.1,
      subst (λ (l : List Id). IsRegister c.self.inside.callers l c.self.inside.premise c.admit_node-seat.new.self.register) (sym items) now,
    )
