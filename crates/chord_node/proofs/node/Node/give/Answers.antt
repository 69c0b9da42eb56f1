use Rattle.std.proofs.Common.{◌≡◌, ◌<◌, List, length, Some, Ok, refl, sym, ap, ◌∙◌, subst, arith}
use Rattle.std.specs.Option.{option_copied_mut}
use Rattle.chord_handover.specs.Handover.{part_at}
use Rattle.chord_handover.specs.Outbox.{Outbox, with_item}
use Rattle.chord_handover.specs.Payload.{Payload, handover_of_payload}
use Rattle.chord_links.specs.declared.peer.Peer.{Peer}
use Rattle.chord_map.specs.declared.pair.Pair.{Pair}
use Rattle.chord_store.specs.Inside.{pairs_inside, pairs_outside}
use Rattle.chord_model.specs.Node.{Node}
use Rattle.chord_model.specs.Stock.{IsStocked}
use Rattle.chord_node.specs.View.{segments_of, entries_in, limit_in}
use Rattle.chord_node.proofs.Giving.{gave_at, give_steps, give_stocked, gives_payload, spent_at}
use Rattle.chord_node.proofs.Moving.{same_at}
use Rattle.chord_node.proofs.node.Node.give.Goals as goal

pub returns-in_default-clause-answer : goal.returns-in_default-clause-answer
returns-in_default-clause-answer g c =
    let held = c.self.inside.held.items in
    let inside : c.args.place < length held = omega arith in
    spent_at c.args.place c.args.to _ c.args.self.now c.self.view_is held refl inside c.in_default.ensures.none

pub new-requires : goal.new-requires
new-requires g c =
    let held = c.self.inside.held.items in
    let inside : c.args.place < length held = omega arith in
    let store : Some c.unwrap-store.result.now ≡ c.self.inside.store = subst (λ o. option_copied_mut o ≡ c.self.inside.store) c.unwrap-store.ensures c.as_mut.ensures.value in
    gives_payload (segments_of held) (g.S.EntryStore.content c.unwrap-store.result.now) c.in-Ok.pairs.items c.index.result.now.segment c.remove-segment.result.segment
    (same_at held held c.args.place c.index.result.now c.remove-segment.result inside refl c.index.ensures c.remove-segment.ensures.value)
    (subst (IsStocked (segments_of held)) (sym (ap (entries_in g.S.EntryStore.content) store)) c.self.invariant.stocked) c.in-Ok.ensures.pairs

pub returns-clause-answer : goal.returns-clause-answer
returns-clause-answer g c =
    let old = c.self.inside in
    let held = old.held.items in
    let inside : c.args.place < length held = omega arith in
    let store : Some c.unwrap-store.result.now ≡ old.store = subst (λ o. option_copied_mut o ≡ old.store) c.unwrap-store.ensures c.as_mut.ensures.value in
    let entries : g.S.EntryStore.content c.unwrap-store.result.now ≡ entries_in g.S.EntryStore.content old.store = ap (entries_in g.S.EntryStore.content) store in
    let a = c.index.result.now.segment in
    let part = c.in-Ok.ensures.part
    ∙ ap (λ n. part_at (handover_of_payload (record { from = n; to = c.args.to; number = c.in-Some.number }) (record { segment = a; pairs = pairs_inside a.span (g.S.EntryStore.content c.unwrap-store.result.now) })) 1) (ap (λ (peer : Peer). peer.number) c.me-from.ensures)
    ∙ ap (λ (es : List Pair). part_at (handover_of_payload (record { from = old.links.me.number; to = c.args.to; number = c.in-Some.number }) (record { segment = a; pairs = pairs_inside a.span es })) 1) entries in
    let given = c.in-Ok-give.ensures.answer.2 ∙ ap (λ (p : Payload). with_item c.args.to p c.reserve.new.self.outbox) c.new.ensures
    ∙ ap (with_item c.args.to (record { segment = c.remove-segment.result.segment; pairs = c.in-Ok.pairs.items })) c.reserve.ensures.same in
    gave_at c.args.place c.args.to c.in-Some.number _ c.args.self.now c.self.view_is held c.remove-segment.new.self.items c.index.result.now c.remove-segment.result old.outbox.outbox c.give.new.self.outbox
    _ c.in-Ok.pairs.items _ c.in-Ok.part c.span.result
    refl refl refl inside c.index.ensures c.remove-segment.ensures.value c.in-Some.ensures.some.0 c.in-Some.ensures.some.1 part (c.in-Ok.ensures.pairs ∙ ap (pairs_inside a.span) entries)
    c.remove-segment.ensures.items c.span.ensures.value (c.drop_copied.ensures.change ∙ ap (pairs_outside c.span.result) entries) (c.drop_copied.ensures.limit ∙ ap (limit_in g.S.EntryStore.limit) store) given

pub invariant_of-self-2 : goal.invariant_of-self-2
invariant_of-self-2 g c =
    let given = c.in-Ok-give.ensures.answer.2 ∙ ap (λ (p : Payload). with_item c.args.to p c.reserve.new.self.outbox) c.new.ensures
    ∙ ap (with_item c.args.to (record { segment = c.remove-segment.result.segment; pairs = c.in-Ok.pairs.items })) c.reserve.ensures.same in
    record {
      stocked = give_stocked c.args.place c.args.to c.args.self.now c.in-Ok.part _ (returns-clause-answer g c) (subst (λ (node : Node). IsStocked node.held node.entries) c.self.view_is c.self.invariant.stocked);
      stored = tt;
      own = ap (λ (outbox : Outbox). outbox.owner) given ∙ c.self.invariant.own;
    }

pub returns-clause-step : goal.returns-clause-step
returns-clause-step g c = give_steps c.args.place c.args.to c.args.self.now (Ok c.in-Ok.part) _ (returns-clause-answer g c)
