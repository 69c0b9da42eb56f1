use Rattle.chord_node.specs.View.{segments_of}
use Rattle.chord_node.proofs.Merging.{merge_at_is, merge_steps, merge_none}
use Rattle.chord_node.proofs.Moving.{stored_held}
use Rattle.chord_model.proofs.Stocking.{stocked_same}
use Rattle.chord_node.proofs.node.Node.merge.Goals as goal

pub invariant_of-self : goal.invariant_of-self
invariant_of-self g c =
    let old = c.self.inside in
    record {
      stocked = stocked_same (segments_of old.held.items) _ _ c.merge_segments.ensures.covers c.self.invariant.stocked;
      stored = stored_held old.phase (segments_of old.held.items) _ old.outbox.outbox.items old.store (merge_none c.args.place c.args.other _ _ c.merge_segments.result c.merge_segments.ensures.answer) c.self.invariant.stored;
      own = c.self.invariant.own;
    }

pub returns-clause-answer : goal.returns-clause-answer
returns-clause-answer g c = merge_at_is c.args.place c.args.other _ _ c.self.view_is c.merge_segments.result _ c.merge_segments.ensures.answer

pub returns-clause-step : goal.returns-clause-step
returns-clause-step g c = merge_steps c.args.place c.args.other c.args.self.now c.merge_segments.result _ (returns-clause-answer g c)
