-- The identifier at the index is not this one.
use Rattle.std.proofs.Common.{below_more, sym, ◌∙◌}
use Rattle.std.proofs.lemmas.Bool.{eqb-false}
use Rattle.std.proofs.lemmas.List.{get_or-map}
use Rattle.chord_ident.specs.declared.id.Id.{Id}
use Rattle.chord_ring.proofs.ring_core.is_used.Goals as goal

pub loop-used-preserved : goal.loop-used-preserved
loop-used-preserved c =
    let place = λ (used : Id). used.number in
    let here = get_or-map place c.args.ids.now c.loop-used.used-index (record { number = 0 }) c.args.id.number c.loop-used-test.true in
    below_more _ _ c.loop-used.invariant (λ same. eqb-false _ _ (sym c.if-eq.ensures) (sym here ∙ same))
