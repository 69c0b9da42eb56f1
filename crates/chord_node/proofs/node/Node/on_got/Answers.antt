use Rattle.std.proofs.Common.{rules, List, sym, ◌∙◌, ap, subst}
use Rattle.chord_handover.specs.Handover.{Item}
use Rattle.chord_handover.specs.Outbox.{Outbox}
use Rattle.chord_node.specs.Rules.{HasStoreFor}
use Rattle.chord_node.specs.View.{segments_of}
use Rattle.chord_node.proofs.Moving.{got_steps, stored_without}
use Rattle.chord_node.proofs.node.Node.on_got.Goals as goal

pub invariant_of-self : goal.invariant_of-self
invariant_of-self g c =
    let old = c.self.inside in
    let left = c.got-freed.ensures.left in
    record {
      stocked = c.self.invariant.stocked;
      stored = subst (λ (items : List Item). HasStoreFor old.phase (segments_of old.held.items) items old.store) (sym (ap (λ (outbox : Outbox). outbox.items) left))
          (stored_without c.args.got.now.to c.args.got.now.number old.phase (segments_of old.held.items) old.outbox.outbox.items old.store c.self.invariant.stored);
      own = ap (λ (outbox : Outbox). outbox.owner) left ∙ c.self.invariant.own;
    }

pub returns-clause-step : goal.returns-clause-step
returns-clause-step g c = got_steps c.args.got.now c.args.self.now c.is_some.result _ c.requires.from (search rules)
