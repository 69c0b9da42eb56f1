use Rattle.std.proofs.Common.{ℕ, List, length, ap, ◌∙◌}
use Rattle.chord_ident.specs.declared.span.Span.{Span}
use Rattle.chord_map.specs.declared.pair.Pair.{Pair}
use Rattle.chord_store.specs.Cut.{pairs_within}
use Rattle.chord_store.specs.Inside.{pairs_inside}
use Rattle.chord_store.proofs.Cutting.{part_within}
use Rattle.chord_store.proofs.cut.count_within.Goals as goal

pub returns : goal.returns
returns g c =
    let placed = g.C.CountSpan.pairs c.args.counted.now in
    let span : Span = record { after = c.args.after; upto = c.after_steps.result } in
    c.count_span.ensures
    ∙ ap (λ (s : Span). length (pairs_inside s placed)) c.new.ensures
    ∙ ap (λ (ps : List Pair). length ps) (part_within span c.after_steps.result placed)
    ∙ ap (λ (steps : ℕ). length (pairs_within c.args.after.number steps placed)) c.after_steps.ensures
