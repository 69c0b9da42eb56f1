use Rattle.std.proofs.Common.{◌≡◌, ℕ, false, None, Some, Ok, sym, ap, ◌∙◌, subst, refl}
use Rattle.std.specs.Prelude.{position}
use Rattle.chord_segment.specs.Segment.{id_of}
use Rattle.std.specs.Option.{option_copied_mut}
use Rattle.chord_node.specs.View.{entries_in, limit_in}
use Rattle.chord_node.proofs.Asking.{has, asked_at, asked_past, asked_steps_recording, holds_here, place_from, find_from, done_here, done_elsewhere, journal_same}
use Rattle.chord_journal.specs.Journal.{JournalIs}
use Rattle.chord_node.specs.Asked.{Journals}
use Rattle.chord_model.specs.Node.{Node}
use Rattle.chord_model.specs.Stock.{IsStocked}
use Rattle.chord_node.proofs.StockedAsks.{asked_stocked}
use Rattle.chord_node.proofs.node.Node.answer_at.Goals as goal

pub returns-in_default-clause-answer : goal.returns-in_default-clause-answer
returns-in_default-clause-answer g c =
    let held = c.self.inside.held.items in
    let at = c.place_with.ensures ∙ ap (position (has c.args.id.number)) c.deref.ensures.value ∙ ap (λ (n : ℕ). position (has n) held) c.requires in
    asked_past c.args.ask false _ _ c.self.view_is held c.pass_taken.result refl (find_from (id_of c.args.ask.request) held (sym at ∙ c.in_default.is)) c.pass_taken.ensures

pub returns-in_default-clause-step : goal.returns-in_default-clause-step
returns-in_default-clause-step g c = asked_steps_recording c.args.ask false c.args.self.now (Ok (c.pass_taken.result, None)) c.args.self.now (returns-in_default-clause-answer g c)

pub answer_taken-requires-clause-key : goal.answer_taken-requires-clause-key
answer_taken-requires-clause-key g c =
    let held = c.self.inside.held.items in
    let at = c.place_with.ensures ∙ ap (position (has c.args.id.number)) c.deref.ensures.value ∙ ap (λ (n : ℕ). position (has n) held) c.requires in
    let place = place_from (id_of c.args.ask.request) held c.in-Some.place c.index_mut-segment.result.now (sym c.in-Some.is ∙ at) in
    ap (has (id_of c.args.ask.request)) c.index_mut-segment.ensures.value ∙ place.here

pub returns-clause-answer : goal.returns-clause-answer
returns-clause-answer g c =
    let held = c.self.inside.held.items in
    let at = c.place_with.ensures ∙ ap (position (has c.args.id.number)) c.deref.ensures.value ∙ ap (λ (n : ℕ). position (has n) held) c.requires in
    let place = place_from (id_of c.args.ask.request) held c.in-Some.place c.index_mut-segment.result.now (sym c.in-Some.is ∙ at) in
    let store : Some c.unwrap-store.result.now ≡ c.self.inside.store = subst (λ o. option_copied_mut o ≡ c.self.inside.store) c.unwrap-store.ensures c.as_mut.ensures.value in
    asked_at c.args.ask false _ _ c.self.view_is held _ _ _ c.answer_taken.result _ _ _ _ refl place c.index_mut-segment.ensures.value
    (ap (entries_in g.S.EntryStore.content) store) (ap (limit_in g.S.EntryStore.limit) store) c.answer_taken.ensures.limit c.answer_taken.ensures.answers

pub invariant_of-self : goal.invariant_of-self
invariant_of-self g c =
    let held = c.self.inside.held.items in
    let at = c.place_with.ensures ∙ ap (position (has c.args.id.number)) c.deref.ensures.value ∙ ap (λ (n : ℕ). position (has n) held) c.requires in
    let place = place_from (id_of c.args.ask.request) held c.in-Some.place c.index_mut-segment.result.now (sym c.in-Some.is ∙ at) in
    let store : Some c.unwrap-store.result.now ≡ c.self.inside.store = subst (λ o. option_copied_mut o ≡ c.self.inside.store) c.unwrap-store.ensures c.as_mut.ensures.value in
    let answer = asked_at c.args.ask false _ _ c.self.view_is held _ _ _ c.answer_taken.result _ _ _ _ refl place c.index_mut-segment.ensures.value
    (ap (entries_in g.S.EntryStore.content) store) (ap (limit_in g.S.EntryStore.limit) store) c.answer_taken.ensures.limit c.answer_taken.ensures.answers in
    record {
      stocked = asked_stocked c.args.ask false c.args.self.now c.answer_taken.result _ answer (subst (λ (node : Node). IsStocked node.held node.entries) c.self.view_is c.self.invariant.stocked);
      stored = tt;
      own = c.self.invariant.own;
    }

pub returns-clause-step : goal.returns-clause-step
returns-clause-step g c = asked_steps_recording c.args.ask false c.args.self.now c.answer_taken.result _ (returns-clause-answer g c)

pub returns-clause-holds : goal.returns-clause-holds
returns-clause-holds g c =
    let held = c.self.inside.held.items in
    let at = c.place_with.ensures ∙ ap (position (has c.args.id.number)) c.deref.ensures.value ∙ ap (λ (n : ℕ). position (has n) held) c.requires in
    let place = place_from (id_of c.args.ask.request) held c.in-Some.place c.index_mut-segment.result.now (sym c.in-Some.is ∙ at) in
    holds_here c.answer_taken.result (id_of c.args.ask.request) _ _ c.self.view_is held _ _ refl place

pub returns-in_default-clause-journal : goal.returns-in_default-clause-journal
returns-in_default-clause-journal g c =
    let held = c.self.inside.held.items in
    let at = c.place_with.ensures ∙ ap (position (has c.args.id.number)) c.deref.ensures.value ∙ ap (λ (n : ℕ). position (has n) held) c.requires in
    subst (λ d. JournalIs c.args.journal.now d c.args.journal.now)
    (done_elsewhere c.args.ask _ _ c.self.view_is held refl (find_from (id_of c.args.ask.request) held (sym at ∙ c.in_default.is)))
    (journal_same c.args.journal.now)

pub returns-clause-journal : goal.returns-clause-journal
returns-clause-journal g c =
    let held = c.self.inside.held.items in
    let at = c.place_with.ensures ∙ ap (position (has c.args.id.number)) c.deref.ensures.value ∙ ap (λ (n : ℕ). position (has n) held) c.requires in
    let place = place_from (id_of c.args.ask.request) held c.in-Some.place c.index_mut-segment.result.now (sym c.in-Some.is ∙ at) in
    let store : Some c.unwrap-store.result.now ≡ c.self.inside.store = subst (λ o. option_copied_mut o ≡ c.self.inside.store) c.unwrap-store.ensures c.as_mut.ensures.value in
    subst (λ d. Journals c.answer_taken.result d c.args.journal.now c.answer_taken.new.journal)
    (done_here c.args.ask _ _ c.self.view_is held _ _ _ _ refl place c.index_mut-segment.ensures.value
    (ap (entries_in g.S.EntryStore.content) store) (ap (limit_in g.S.EntryStore.limit) store))
    c.answer_taken.ensures.journal
