use Rattle.std.proofs.Common.{◌≡◌, ◌≢◌, ◌+◌, Some, Ok, ap, ◌∙◌, subst, rules}
use Rattle.std.specs.Option.{option_copied_mut}
use Rattle.chord_segment.specs.Marks.{mark_of}
use Rattle.chord_node.specs.declared.handovers.part_answer.PartAnswer.TheVariants.{Got, Declined, Early}
use Rattle.chord_model.specs.declared.phase.Phase.TheVariants.{Gone}
use Rattle.chord_node.specs.Received.{NextIs}
use Rattle.chord_node.specs.View.{segments_of, entries_in, limit_in}
use Rattle.chord_node.proofs.Taking.{part_is, part_steps}
use Rattle.chord_node.proofs.node.Node.on_give.Goals as goal

pub returns-then-eq-clause-step : goal.returns-then-eq-clause-step
returns-then-eq-clause-step g c = part_steps c.args.part.now c.args.self.now (Ok Got) c.args.self.now c.requires.to (search rules)

pub returns-then-eq-2-clause-step : goal.returns-then-eq-2-clause-step
returns-then-eq-2-clause-step g c = part_steps c.args.part.now c.args.self.now (Ok Declined) c.args.self.now c.requires.to (search rules)

pub returns-then-eq-3-clause-step : goal.returns-then-eq-3-clause-step
returns-then-eq-3-clause-step g c = part_steps c.args.part.now c.args.self.now (Ok Early) c.args.self.now c.requires.to (search rules)

pub returns-clause-answer : goal.returns-clause-answer
returns-clause-answer g c =
    let old = c.self.inside in
    let next : c.args.part.now.number ≡ mark_of c.args.part.now.from old.taken.taken.last + 1 = search rules in
    let there : old.phase ≢ Gone = search rules in
    let store : Some c.unwrap-store.result.now ≡ old.store = subst (λ o. option_copied_mut o ≡ old.store) c.unwrap-store.ensures c.as_mut.ensures.value in
    part_is c.args.part.now _ c.args.self.now c.self.view_is c.take_next.result _ _ _ c.take_next.new.taken.taken next there
    (c.take_next.ensures.limit ∙ ap (limit_in g.S.EntryStore.limit) store)
    (subst (λ o. NextIs c.args.part.now (segments_of old.held.items) (entries_in g.S.EntryStore.content o) (limit_in g.S.EntryStore.limit o) old.taken.taken c.take_next.result (segments_of c.take_next.new.held.items) (g.S.EntryStore.content c.take_next.new.store) c.take_next.new.taken.taken)
    store c.take_next.ensures.answer)

pub returns-clause-step : goal.returns-clause-step
returns-clause-step g c = part_steps c.args.part.now c.args.self.now c.take_next.result _ c.requires.to (returns-clause-answer g c)
