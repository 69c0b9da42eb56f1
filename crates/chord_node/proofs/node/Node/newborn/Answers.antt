use Rattle.std.proofs.Common.{◌∙◌, ap}
use Rattle.chord_handover.specs.Outbox.{Outbox}
use Rattle.chord_links.specs.declared.peer.Peer.{Peer}
use Rattle.chord_model.proofs.Stocking.{stocked_vacant}
use Rattle.chord_node.proofs.node.Node.newborn.Goals as goal

pub invariant_of-result : goal.invariant_of-result
invariant_of-result g c = record {
  stocked = stocked_vacant _ _ c.requires;
  stored = tt;
  own = ap (λ (outbox : Outbox). outbox.owner) c.new-outbox.ensures ∙ ap (λ (peer : Peer). peer.number) c.me.ensures;
}
