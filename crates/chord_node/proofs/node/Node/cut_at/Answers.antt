use Rattle.chord_node.specs.View.{segments_of}
use Rattle.chord_node.proofs.Moving.{cut_at_is, cut_steps, cut_none, stored_held}
use Rattle.chord_model.proofs.Stocking.{stocked_same}
use Rattle.chord_node.proofs.node.Node.cut_at.Goals as goal

pub invariant_of-self : goal.invariant_of-self
invariant_of-self g c =
    let old = c.self.inside in
    record {
      stocked = stocked_same (segments_of old.held.items) _ _ c.cut_segment.ensures.covers c.self.invariant.stocked;
      stored = stored_held old.phase (segments_of old.held.items) _ old.outbox.outbox.items old.store (cut_none c.args.place c.args.at _ _ c.cut_segment.result c.cut_segment.ensures.answer) c.self.invariant.stored;
      own = c.self.invariant.own;
    }

pub returns-clause-answer : goal.returns-clause-answer
returns-clause-answer g c = cut_at_is c.args.place c.args.at _ _ c.self.view_is c.cut_segment.result _ c.cut_segment.ensures.answer

pub returns-clause-step : goal.returns-clause-step
returns-clause-step g c = cut_steps c.args.place c.args.at c.args.self.now c.cut_segment.result _ c.cut_segment.ensures.circle (returns-clause-answer g c)
