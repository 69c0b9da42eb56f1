use Rattle.std.proofs.Common.{◌∙◌, ap, sym}
use Rattle.chord_live_ring.specs.Parts.{Parts}
use Rattle.chord_table.specs.Views.{Name}
use Rattle.chord_live_ring.proofs.ring_parts.RingParts.assemble.Goals as goal

pub assemble-table-requires : goal.assemble-table-requires
assemble-table-requires g c = ap (λ (p : Parts). p.name) c.self.view_is ∙ c.requires

pub new-numbers-requires-clause-places : goal.new-numbers-requires-clause-places
new-numbers-requires-clause-places g c = sym c.self.inside.callers ∙ ap (λ (n : Name). n.callers) (ap (λ (p : Parts). p.name) c.self.view_is ∙ c.requires)

pub invariant_of-result : goal.invariant_of-result
invariant_of-result g c =
    let name = ap (λ (p : Parts). p.name) c.self.view_is ∙ c.requires in
    let slots = c.in_ok-slots.ensures ∙ sym c.self.inside.slots ∙ ap (λ (n : Name). n.slots) name in
    let inboxes = c.in_ok-inboxes.ensures ∙ sym c.self.inside.callers ∙ ap (λ (n : Name). n.callers) name in
    let sized = sym (ap (λ (n : Name). n.slots) name) ∙ c.self.inside.slots in
    (sized, (c.self.inside.within, (slots, (inboxes, tt))))
