use Rattle.std.proofs.Common.{◌≡◌, ◌≤◌, ◌+◌, List, [], ◌∷◌, ◌++◌, Some, Ok, sym, ap, ◌∙◌, subst, length, rules}
use Rattle.std.specs.Option.{option_copied_mut}
use Rattle.chord_handover.specs.Handover.{item_at}
use Rattle.chord_handover.specs.Outbox.{Outbox}
use Rattle.chord_handover.specs.Payload.{Payload}
use Rattle.chord_map.specs.declared.pair.Pair.{Pair}
use Rattle.chord_map.specs.Map.{put_all}
use Rattle.chord_segment.specs.Segment.{Segment}
use Rattle.chord_node.specs.declared.handovers.part_answer.Back.TheVariants.{Clash, Full, Held}
use Rattle.chord_model.specs.Node.NodeStep.{Keeps}
use Rattle.chord_model.specs.Stock.{IsStocked}
use Rattle.chord_node.specs.View.{segments_of, entries_in, limit_in}
use Rattle.chord_node.proofs.Moving.{has_store, held_more}
use Rattle.chord_model.proofs.Stocking.{stocked_more}
use Rattle.chord_node.proofs.Taking.{back_steps, back_at, payload_from, same_payload, none_under_way}
use Rattle.chord_node.proofs.node.Node.on_declined.Goals as goal

pub returns-in_default-clause-step : goal.returns-in_default-clause-step
returns-in_default-clause-step g c = Keeps c.args.declined.now c.requires.from

pub unwrap-store-requires : goal.unwrap-store-requires
unwrap-store-requires g c =
    let old = c.self.inside in
    let there = has_store old.phase (segments_of old.held.items) old.outbox.outbox.items old.store c.self.invariant.stored
    (λ none. none_under_way c.args.declined.now.to c.args.declined.now.number old.outbox.outbox.items c.in-Some.payload.now c.in-Some.ensures none) in
    search rules

pub returns-in-Err-Clash-clause-step : goal.returns-in-Err-Clash-clause-step
returns-in-Err-Clash-clause-step g c = back_steps c.args.declined.now c.args.self.now (Ok Clash) _ c.requires.from (search rules)

pub returns-in-Err-Full-clause-step : goal.returns-in-Err-Full-clause-step
returns-in-Err-Full-clause-step g c = back_steps c.args.declined.now c.args.self.now (Ok Full) _ c.requires.from (search rules)

pub invariant_of-self-2 : goal.invariant_of-self-2
invariant_of-self-2 g c =
    let old = c.self.inside in
    let held = old.held.items in
    let payload = c.in-Some.payload.now in
    let put = c.in-Ok.ensures.answer in
    let same = same_payload (item_at c.args.declined.now.to c.args.declined.now.number old.outbox.outbox.items) c.in-Some-declined.back payload c.in-Some-declined.ensures.item c.in-Some.ensures in
    let more = held_more held _ c.push_reserved.new.self.items _ payload.segment c.push_reserved.ensures.items c.in-Ok.ensures.held (c.into_parts-segment.ensures.segment ∙ ap (λ (p : Payload). p.segment) same) in
    let store : Some c.unwrap-store.result.now ≡ old.store = subst (λ o. option_copied_mut o ≡ old.store) c.unwrap-store.ensures c.as_mut.ensures.value in
    let stock = stocked_more (segments_of held) payload (g.S.EntryStore.content c.unwrap-store.result.now) c.in-Ok.ensures.payload put.0
    (subst (IsStocked (segments_of held)) (sym (ap (entries_in g.S.EntryStore.content) store)) c.self.invariant.stocked) in
    record {
      stocked = subst (λ (hs : List Segment). IsStocked hs (g.S.EntryStore.content c.make_held.new.store)) (sym more)
          (subst (λ (ps : List Pair). IsStocked (segments_of held ++ payload.segment ∷ []) ps) (sym put.2) stock);
      stored = tt;
      own = ap (λ (outbox : Outbox). outbox.owner) c.declined.ensures.left ∙ c.self.invariant.own;
    }

pub returns-clause-answer : goal.returns-clause-answer
returns-clause-answer g c =
    let old = c.self.inside in
    let held = old.held.items in
    let payload = c.in-Some.payload.now in
    let put = c.in-Ok.ensures.answer in
    let at = item_at c.args.declined.now.to c.args.declined.now.number old.outbox.outbox.items in
    let found = payload_from at payload c.in-Some.ensures in
    let same = same_payload at c.in-Some-declined.back payload c.in-Some-declined.ensures.item c.in-Some.ensures in
    let more = held_more held _ c.push_reserved.new.self.items _ payload.segment c.push_reserved.ensures.items c.in-Ok.ensures.held (c.into_parts-segment.ensures.segment ∙ ap (λ (p : Payload). p.segment) same) in
    let store : Some c.unwrap-store.result.now ≡ old.store = subst (λ o. option_copied_mut o ≡ old.store) c.unwrap-store.ensures c.as_mut.ensures.value in
    back_at c.args.declined.now _ c.args.self.now c.self.view_is found.0 payload.segment payload.pairs found.1 found.2 found.3 put.0
    (subst (λ o. length (entries_in g.S.EntryStore.content o) + length payload.pairs ≤ limit_in g.S.EntryStore.limit o) store put.1)
    _ _ _ _ _ more (put.2 ∙ ap (put_all payload.pairs) (ap (entries_in g.S.EntryStore.content) store)) (c.in-Ok.ensures.limit ∙ ap (limit_in g.S.EntryStore.limit) store)
    (ap (λ (outbox : Outbox). outbox.given) c.declined.ensures.left) (ap (λ (outbox : Outbox). outbox.items) c.declined.ensures.left)

pub returns-clause-step : goal.returns-clause-step
returns-clause-step g c = back_steps c.args.declined.now c.args.self.now (Ok Held) _ c.requires.from (returns-clause-answer g c)
