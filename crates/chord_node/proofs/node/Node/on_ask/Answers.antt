use Rattle.std.proofs.Common.{◌≡◌, ℕ, List, true, Option, None, Some, Ok, sym, ap, ◌∙◌, subst, refl}
use Rattle.std.specs.Prelude.{position}
use Rattle.chord_ident.specs.Circle.{key_id}
use Rattle.chord_segment.specs.Segment.{RoomySegment, id_of}
use Rattle.std.specs.Option.{option_copied_mut}
use Rattle.chord_node.specs.View.{entries_in, limit_in}
use Rattle.chord_node.proofs.Asking.{has, asked_at, asked_no_further, asked_past, asked_steps_recording, place_from, find_from}
use Rattle.chord_model.specs.Node.{Node}
use Rattle.chord_model.specs.Stock.{IsStocked}
use Rattle.chord_node.proofs.StockedAsks.{asked_stocked}
use Rattle.chord_node.proofs.node.Node.on_ask.Goals as goal

-- the place of the first held segment that has the key's identifier
place_is : {n x : ℕ} {read : List RoomySegment} {place : Option ℕ} (held : List RoomySegment) → n ≡ x → read ≡ held → place ≡ position (has n) read → place ≡ position (has x) held
place_is {n} held same there is = is ∙ ap (position (has n)) there ∙ ap (λ (m : ℕ). position (has m) held) same

pub pass_on-requires : goal.pass_on-requires
pass_on-requires g c = c.of_bytes-x.ensures ∙ ap key_id c.key.ensures

pub returns-in-Ok-clause-answer : goal.returns-in-Ok-clause-answer
returns-in-Ok-clause-answer g c =
    let held = c.self.inside.held.items in
    let at = place_is held (c.of_bytes-x.ensures ∙ ap key_id c.key.ensures) c.deref.ensures.value c.place_with.ensures in
    asked_past c.args.ask.now true _ _ c.self.view_is held c.in-Ok.passed refl (find_from (id_of c.args.ask.now.request) held (sym at ∙ c.in_default.is)) c.in-Ok.ensures.passed

pub returns-in-Ok-clause-step : goal.returns-in-Ok-clause-step
returns-in-Ok-clause-step g c = asked_steps_recording c.args.ask.now true c.args.self.now (Ok (c.in-Ok.passed, None)) c.args.self.now (returns-in-Ok-clause-answer g c)

pub returns-in-Err-clause-answer : goal.returns-in-Err-clause-answer
returns-in-Err-clause-answer g c =
    let held = c.self.inside.held.items in
    let at = place_is held (c.of_bytes-x.ensures ∙ ap key_id c.key.ensures) c.deref.ensures.value c.place_with.ensures in
    (asked_no_further c.args.ask.now _ _ c.self.view_is held refl (find_from (id_of c.args.ask.now.request) held (sym at ∙ c.in_default.is)) c.in-Err.ensures.memory, refl)

pub answer_in-requires-clause-key : goal.answer_in-requires-clause-key
answer_in-requires-clause-key g c =
    let held = c.self.inside.held.items in
    let at = place_is held (c.of_bytes-x.ensures ∙ ap key_id c.key.ensures) c.deref.ensures.value c.place_with.ensures in
    let place = place_from (id_of c.args.ask.now.request) held c.in-Some.place c.index_mut-segment.result.now (sym c.in-Some.is ∙ at) in
    ap (has (id_of c.args.ask.now.request)) c.index_mut-segment.ensures.value ∙ place.here

pub returns-clause-answer : goal.returns-clause-answer
returns-clause-answer g c =
    let held = c.self.inside.held.items in
    let at = place_is held (c.of_bytes-x.ensures ∙ ap key_id c.key.ensures) c.deref.ensures.value c.place_with.ensures in
    let place = place_from (id_of c.args.ask.now.request) held c.in-Some.place c.index_mut-segment.result.now (sym c.in-Some.is ∙ at) in
    let store : Some c.unwrap-store.result.now ≡ c.self.inside.store = subst (λ o. option_copied_mut o ≡ c.self.inside.store) c.unwrap-store.ensures c.as_mut.ensures.value in
    asked_at c.args.ask.now true _ _ c.self.view_is held _ _ _ c.answer_in.result _ _ _ _ refl place c.index_mut-segment.ensures.value
    (ap (entries_in g.S.EntryStore.content) store) (ap (limit_in g.S.EntryStore.limit) store) c.answer_in.ensures.limit c.answer_in.ensures.answers

pub invariant_of-self : goal.invariant_of-self
invariant_of-self g c =
    let held = c.self.inside.held.items in
    let at = place_is held (c.of_bytes-x.ensures ∙ ap key_id c.key.ensures) c.deref.ensures.value c.place_with.ensures in
    let place = place_from (id_of c.args.ask.now.request) held c.in-Some.place c.index_mut-segment.result.now (sym c.in-Some.is ∙ at) in
    let store : Some c.unwrap-store.result.now ≡ c.self.inside.store = subst (λ o. option_copied_mut o ≡ c.self.inside.store) c.unwrap-store.ensures c.as_mut.ensures.value in
    let answer = asked_at c.args.ask.now true _ _ c.self.view_is held _ _ _ c.answer_in.result _ _ _ _ refl place c.index_mut-segment.ensures.value
    (ap (entries_in g.S.EntryStore.content) store) (ap (limit_in g.S.EntryStore.limit) store) c.answer_in.ensures.limit c.answer_in.ensures.answers in
    record {
      stocked = asked_stocked c.args.ask.now true c.args.self.now c.answer_in.result _ answer (subst (λ (node : Node). IsStocked node.held node.entries) c.self.view_is c.self.invariant.stocked);
      stored = tt;
      own = c.self.invariant.own;
    }

pub returns-clause-step : goal.returns-clause-step
returns-clause-step g c = asked_steps_recording c.args.ask.now true c.args.self.now c.answer_in.result _ (returns-clause-answer g c)
