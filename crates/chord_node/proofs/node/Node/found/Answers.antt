use Rattle.std.proofs.Common.{sym, ◌∙◌, ap}
use Rattle.chord_handover.specs.Outbox.{Outbox}
use Rattle.chord_links.specs.NodeLinks.{NodeLinks}
use Rattle.chord_model.proofs.Stocking.{stocked_vacant}
use Rattle.chord_node.proofs.node.Node.found.Goals as goal

pub invariant_of-result : goal.invariant_of-result
invariant_of-result g c = record {
  stocked = stocked_vacant _ _ c.requires.vacant;
  stored = tt;
  own = ap (λ (outbox : Outbox). outbox.owner) c.new-outbox.ensures ∙ ap (λ (links : NodeLinks). links.me.number) (sym c.alone.ensures);
}
