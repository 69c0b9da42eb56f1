use Rattle.std.proofs.Common.{refl, ◌∙◌, ap, subst}
use Rattle.chord_ident.specs.declared.span.Span.{Span}
use Rattle.chord_map.proofs.Lists.{not_both}
use Rattle.chord_model.specs.Stock.{IsClash}
use Rattle.chord_node.specs.View.{segments_of}
use Rattle.chord_node.proofs.Clear.{clash_is, clear_is}
use Rattle.chord_node.proofs.Putting.{put_ok, put_full, put_memory}
use Rattle.chord_model.proofs.Stocking.{vacant, payload_inside, all_inside}
use Rattle.chord_segment.specs.Segment.{Segment}
use Rattle.chord_node.proofs.handovers.hold.put_pairs.Goals as goal

pub returns-then-meets_any-clause-answer : goal.returns-then-meets_any-clause-answer
returns-then-meets_any-clause-answer g c =
    let at = c.span-span.ensures.value ∙ ap (λ (segment : Segment). segment.span) c.segment.ensures in
    (subst (λ (span : Span). IsClash span (segments_of c.args.held.now)) at (clash_is c.span-span.result c.args.held.now (c.meets_any.ensures.0 c.if-meets_any.true)), refl)

pub put_all-requires-clause-vacant : goal.put_all-requires-clause-vacant
put_all-requires-clause-vacant g c =
    vacant c.span-span.result (segments_of c.args.held.now) (g.S.EntryStore.content c.args.store.now)
    (clear_is c.span-span.result c.args.held.now (λ any. not_both c.meets_any.result (c.meets_any.ensures.1 any) c.if-meets_any.false)) c.requires

pub put_all-requires-clause-within : goal.put_all-requires-clause-within
put_all-requires-clause-within g c =
    let at = c.span-span.ensures.value ∙ ap (λ (segment : Segment). segment.span) c.segment.ensures in
    let payload = c.args.payload.now in
    rw (at, c.pairs-pairs.ensures.value) (all_inside payload.segment.span payload.pairs (payload_inside payload c.pairs-pairs.ensures.rules))

pub returns-in-Ok-clause-answer : goal.returns-in-Ok-clause-answer
returns-in-Ok-clause-answer g c =
    put_ok c.args.payload.now c.span-span.result c.pairs-pairs.result.now (segments_of c.args.held.now) _ _ _ (c.span-span.ensures.value ∙ ap (λ (segment : Segment). segment.span) c.segment.ensures) c.pairs-pairs.ensures.value
    (clear_is c.span-span.result c.args.held.now (λ any. not_both c.meets_any.result (c.meets_any.ensures.1 any) c.if-meets_any.false)) c.in-Ok.ensures.answer

pub returns-in-Err-Full-clause-answer : goal.returns-in-Err-Full-clause-answer
returns-in-Err-Full-clause-answer g c =
    put_full c.args.payload.now c.span-span.result c.pairs-pairs.result.now (segments_of c.args.held.now) _ _ _ (c.span-span.ensures.value ∙ ap (λ (segment : Segment). segment.span) c.segment.ensures) c.pairs-pairs.ensures.value
    (clear_is c.span-span.result c.args.held.now (λ any. not_both c.meets_any.result (c.meets_any.ensures.1 any) c.if-meets_any.false)) (rw c.in-Err-Full.field-0-is at c.in-Err-Full.ensures.answer)

pub returns-in-Err-Memory-clause-answer : goal.returns-in-Err-Memory-clause-answer
returns-in-Err-Memory-clause-answer g c =
    put_memory c.args.payload.now c.span-span.result c.pairs-pairs.result.now (segments_of c.args.held.now) _ _ _ (c.span-span.ensures.value ∙ ap (λ (segment : Segment). segment.span) c.segment.ensures) c.pairs-pairs.ensures.value
    (clear_is c.span-span.result c.args.held.now (λ any. not_both c.meets_any.result (c.meets_any.ensures.1 any) c.if-meets_any.false)) (rw c.in-Err-Memory.field-0-is at c.in-Err-Memory.ensures.answer)
