use Rattle.std.proofs.Common.{inr, subst, ℕ}
use Rattle.std.specs.List.{All}
use Rattle.chord_app_serve.specs.Gaps.{IsBound}
use Rattle.chord_app_serve.proofs.Gaps.{picked, whole_circle}
use Rattle.chord_app_serve.proofs.gap.free_id.Goals as goal

pub returns-clause-middle : goal.returns-clause-middle
returns-clause-middle c = picked c.args.ids.now c.args.draw c.in_ok-widest.field-0 c.by_middle.result (c.in_ok-widest.ensures {u = tt}).some c.by_middle.ensures.place

pub returns-clause-none : goal.returns-clause-none
returns-clause-none c none =
    let ids = c.args.ids.now in let gap = c.in_ok-widest.field-0 in
    let widest = (c.in_ok-widest.ensures {u = tt}).some in
    inr (whole_circle ids gap.after widest.1 (subst (λ (width : ℕ). All (IsBound ids width) ids) (c.by_middle.ensures.none.0 none) widest.2))
