use Rattle.std.proofs.Common.{ℕ, ◌+◌, take, sym, subst}
use Rattle.std.proofs.lemmas.List.{take_all}
use Rattle.chord_app_serve.specs.Gaps.{IsFree, IsBound}
use Rattle.chord_app_serve.proofs.Gaps.{gap_of, free_more, bound_more}
use Rattle.chord_ident.specs.declared.id.Id.{Id}
use Rattle.chord_app_serve.proofs.gap.Gap.behind.Goals as goal

pub loop-id-preserved : goal.loop-id-preserved
loop-id-preserved c =
    let ids = c.args.ids.now in let i = c.loop-id.id-index in
    let some : Id = record { number = 0 } in
    subst (λ (width : ℕ). IsFree (take (i + 1) ids) (gap_of c.args.after width) × IsBound (take (i + 1) ids) width c.args.after) (sym c.min-width.ensures) (
      free_more ids c.args.after c.loop-id.width c.distance-far.result i some c.loop-id-test.true c.distance-far.ensures c.distance-far.type_inv c.loop-id.invariant.0,
      bound_more ids c.args.after c.loop-id.width c.distance-far.result i some c.loop-id-test.true c.distance-far.ensures c.distance-far.type_inv c.loop-id.invariant.1,
    )

pub returns-clause-free : goal.returns-clause-free
returns-clause-free c = subst (λ ids. IsFree ids (gap_of c.args.after c.loop-id.width)) (take_all c.loop-id.id-index c.args.ids.now c.loop-id-test.false) c.loop-id.invariant.0

pub returns-clause-widest : goal.returns-clause-widest
returns-clause-widest c = subst (λ ids. IsBound ids c.loop-id.width c.args.after) (take_all c.loop-id.id-index c.args.ids.now c.loop-id-test.false) c.loop-id.invariant.1
