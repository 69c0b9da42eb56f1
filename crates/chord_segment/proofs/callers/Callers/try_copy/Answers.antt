use Rattle.std.proofs.Common.{◌≡◌, ℕ, ◌≤◌, List, length, ◌+◌, take, ap, sym, subst, ◌∙◌}
use Rattle.std.proofs.lemmas.List.{take_all}
use Rattle.chord_segment.specs.Callers.{OfCaller, without_room, marks_in, calls_in}
use Rattle.chord_segment.proofs.Bare.{AreSame, same_next, same_marks, same_calls, same_grouped}
use Rattle.chord_segment.proofs.callers.Callers.try_copy.Goals as goal

pub loop-own-preserved : goal.loop-own-preserved
loop-own-preserved c =
    let ys = c.deref-own-items.result.now in
    let i = c.loop-own.own-index in
    let own = c.own-item.result in
    subst (λ (zs : List OfCaller). AreSame zs (take (i + 1) ys)) (sym c.in_ok-push.ensures.items)
    (same_next c.loop-own.entries.items ys i own c.in_ok-try_copy.field-0 c.loop-own.invariant c.loop-own-test.true (c.in_ok-try_copy.ensures ∙ ap without_room c.own-item.is))

-- all were copied
all_same : (entries ys xs : List OfCaller) (i : ℕ) → AreSame entries (take i ys) → length ys ≤ i → ys ≡ xs → AreSame entries xs
all_same entries ys xs i same past is = subst (AreSame entries) (take_all i ys past ∙ is) same

pub invariant_of-result : goal.invariant_of-result
invariant_of-result c =
    same_grouped _ _ (all_same _ _ _ c.loop-own.own-index c.loop-own.invariant c.loop-own-test.false c.deref-own-items.ensures.value) c.self.invariant

pub returns-clause-floors : goal.returns-clause-floors
returns-clause-floors c =
    same_marks _ _ (all_same _ _ _ c.loop-own.own-index c.loop-own.invariant c.loop-own-test.false c.deref-own-items.ensures.value) ∙ ap marks_in c.self.view_is

pub returns-clause-calls : goal.returns-clause-calls
returns-clause-calls c =
    same_calls _ _ (all_same _ _ _ c.loop-own.own-index c.loop-own.invariant c.loop-own-test.false c.deref-own-items.ensures.value) ∙ ap calls_in c.self.view_is
