use Rattle.std.proofs.Common.{List, ◌∙◌, ap, subst}
use Rattle.chord_ident.specs.declared.span.Span.{Span}
use Rattle.chord_model.specs.Stock.{IsClear}
use Rattle.chord_node.specs.View.{segments_of}
use Rattle.chord_node.proofs.Taking.{undone}
use Rattle.chord_segment.specs.Segment.{Segment}
use Rattle.chord_store.specs.Inside.{pairs_outside}
use Rattle.chord_node.proofs.handovers.hold.make_held.Goals as goal

pub returns-then-is_err-clause-answer : goal.returns-then-is_err-clause-answer
returns-then-is_err-clause-answer g c =
    let payload = c.args.payload.now in
    let put = c.in_ok-put_pairs.ensures.answer in
    let clear = subst (λ (held : List Segment). IsClear payload.segment.span held) (ap segments_of c.deref.ensures.value) put.0 in
    let at = c.span-span.ensures.value ∙ ap (λ (segment : Segment). segment.span) c.segment.ensures in (
      clear,
      put.1,
      c.take_out.ensures.change ∙ ap (λ (span : Span). pairs_outside span (g.S.EntryStore.content c.put_pairs.new.store)) at
          ∙ undone (segments_of c.args.held.now.items) payload (g.S.EntryStore.content c.args.store.now) _ c.in_ok-put_pairs.ensures.payload clear c.requires put.2,
    )
