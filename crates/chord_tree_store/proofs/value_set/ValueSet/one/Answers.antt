use Rattle.std.proofs.Common.{subst, sym, ap, ◌∙◌, List, ℕ, length, arith, nat_cmp, ◌≡◌, ◌∷◌, [], ◌++◌}
use Rattle.std.specs.Cmp.Lexicographic.{slice_cmp}
use Rattle.std.specs.List.Sorted.{IsStrictlySortedBy}
use Rattle.chord_tree_store.proofs.value_set.ValueSet.one.Goals as goal

pub invariant_of-result : goal.invariant_of-result
unfolding IsStrictlySortedBy
invariant_of-result c =
    let value = c.in_ok-try_copy.field-0 in
    let is : c.push.new.self ≡ value ∷ [] = c.in_ok-push.ensures.ok ∙ ap (λ (vs : List (List ℕ)). vs ++ value ∷ []) c.new-values.ensures in
    record {
      rises = subst (λ (vs : List (List ℕ)). IsStrictlySortedBy (slice_cmp nat_cmp) vs) (sym is) (tt, tt);
      some = omega (arith, ap length is);
      few = omega (arith, ap length is);
    }
