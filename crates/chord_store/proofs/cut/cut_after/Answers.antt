use Rattle.std.proofs.Common.{rules, ◌≤◌, ◌<◌, ◌+◌, ◌-◌, ◌%◌, ◌^◌, ℕ, List, length, sym, ap, subst, ◌∙◌, arith, inl, inr, ⊎_elim}
use Rattle.chord_ident.proofs.Digest.{key_id-below}
use Rattle.chord_ident.proofs.Walks.{skips}
use Rattle.chord_map.specs.declared.pair.Pair.{Pair}
use Rattle.chord_store.specs.Cut.{pairs_within, part_up_to}
use Rattle.chord_store.proofs.Cutting.{cuts_at, cuts_leave, leave_by, part_within, within_none}
use Rattle.chord_store.proofs.cut.cut_after.Goals as goal

pub returns-then-most-eq0-clause-none : goal.returns-then-most-eq0-clause-none
returns-then-most-eq0-clause-none g c =
    let span = c.args.span in
    let pairs = g.C.CountSpan.pairs c.args.counted.now in
    let whole = skips span.after.number span.upto.number _ (search rules) (search rules) (ap (λ (d : ℕ). (d + (2 ^ 128 - 1)) % 2 ^ 128) c.distance-most.ensures) in
    let none = within_none span.after.number pairs (search rules) (λ p. key_id-below p.key) in
    leave_by span c.args.n _ pairs (search rules) (search rules) whole
    (subst (λ (d : ℕ). length (pairs_within span.after.number d pairs) < c.args.n) (sym c.if-most-eq0.true) (omega (arith, none, c.requires)))

pub returns-in_default-clause-none : goal.returns-in_default-clause-none
returns-in_default-clause-none g c =
    let span = c.args.span in
    let whole = skips span.after.number span.upto.number _ (search rules) (search rules) (ap (λ (d : ℕ). (d + (2 ^ 128 - 1)) % 2 ^ 128) c.distance-most.ensures) in
    leave_by span c.args.n _ (g.C.CountSpan.pairs c.args.counted.now) (search rules) (search rules) whole (search (rules, c.in_default.ensures.none))

pub returns-clause-cut : goal.returns-clause-cut
returns-clause-cut g c =
    let span = c.args.span in
    let whole = skips span.after.number span.upto.number _ (search rules) (search rules) (ap (λ (d : ℕ). (d + (2 ^ 128 - 1)) % 2 ^ 128) c.distance-most.ensures) in
    cuts_at span c.after_steps.result (omega (arith, whole, c.after_steps.ensures, c.in-Some.ensures.most, c.steps_to-steps.ensures.most))

pub returns-clause-enough : goal.returns-clause-enough
returns-clause-enough g c =
    let span = c.args.span in
    let pairs = g.C.CountSpan.pairs c.args.counted.now in
    subst (λ (k : ℕ). c.args.n ≤ k)
    (sym (ap (λ (ps : List Pair). length ps) (part_within span c.after_steps.result pairs)
    ∙ ap (λ (d : ℕ). length (pairs_within span.after.number d pairs)) c.after_steps.ensures))
    c.steps_to-steps.ensures.enough

pub returns-clause-short : goal.returns-clause-short
returns-clause-short g c =
    let span = c.args.span in
    let pairs = g.C.CountSpan.pairs c.args.counted.now in
    ⊎_elim
    (λ few. inl (subst (λ (k : ℕ). k ≤ c.args.limit)
    (sym (ap (λ (ps : List Pair). length ps) (part_within span c.after_steps.result pairs)
    ∙ ap (λ (d : ℕ). length (pairs_within span.after.number d pairs)) c.after_steps.ensures))
    few))
    (λ fewest. inr (cuts_leave (part_up_to span c.after_steps.result) c.args.n pairs (search rules) (search rules)
    (λ steps less. fewest steps (subst (λ (d : ℕ). steps < d) c.after_steps.ensures less))))
    c.steps_to-steps.ensures.short
