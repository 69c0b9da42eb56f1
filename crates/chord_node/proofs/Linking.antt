-- New links of the same node.
use Rattle.std.proofs.Common.{◌≡◌, None, sym, ap, ◌∙◌, subst}
use Rattle.chord_links.specs.NodeLinks.{NodeLinks}
use Rattle.chord_links.specs.declared.peer.Peer.{Peer}
use Rattle.chord_model.specs.Node.{Node, NodeStep}
use Rattle.chord_model.specs.Node.NodeStep.{Links_change}

pub links_set : (view old : Node) (links : NodeLinks) → view ≡ old → view.number ≡ view.links.me.number → links.me ≡ old.links.me
    → ◌≡◌ {A = Node} (record view { number = links.me.number; links = links }) (record old { links = links })
links_set view old links same own me =
    let number = ap (λ (peer : Peer). peer.number) (me ∙ ap (λ (node : Node). node.links.me) (sym same)) ∙ sym own in
    (λ i. record view { number = number i; links = links }) ∙ ap (λ (node : Node). record node { links = links }) same

pub links_change : (old new : Node) (links : NodeLinks) → links.me ≡ old.links.me → new ≡ record old { links = links } → NodeStep old None new None None
links_change old new links me is = subst (λ (node : Node). NodeStep old None node None None) (sym is) (Links_change links me)
