-- The node at the index has another identifier.
use Rattle.std.proofs.Common.{below_more, sym, ◌∙◌, ap}
use Rattle.std.proofs.lemmas.Bool.{eqb-false}
use Rattle.std.proofs.lemmas.List.{get_or-map}
use Rattle.chord_links.specs.declared.peer.Peer.{Peer}
use Rattle.chord_links.specs.NodeLinks.{NodeLinks}
use Rattle.chord_world.specs.Members.{id_of_node}
use Rattle.chord_world.proofs.members.is_used.Goals as goal

pub loop-node-preserved : goal.loop-node-preserved
loop-node-preserved g c =
    let here = get_or-map id_of_node c.args.nodes.now c.loop-node.node-index c.node-item.result c.args.id.number c.loop-node-test.true ∙ ap id_of_node (sym c.node-item.is) in
    let read = ap (λ (p : Peer). p.id.number) (c.me.ensures ∙ ap (λ (l : NodeLinks). l.me) c.links.ensures) in
    below_more _ _ c.loop-node.invariant (λ same. eqb-false _ _ (sym c.if-eq.ensures) (read ∙ sym here ∙ same))
