use Rattle.std.proofs.Common.{ap, length, arith, sym, subst, List, ℕ, nat_cmp}
use Rattle.std.proofs.lemmas.List.Edits.{length-remove}
use Rattle.std.specs.Cmp.Lexicographic.{slice_cmp}
use Rattle.std.specs.List.Sorted.{IsStrictlySortedBy}
use Rattle.chord_map.specs.Places.{IsAt, IsGapFor}
use Rattle.chord_tree_store.proofs.ValueOrder.{has_at_place, has_not_in_gap, others_at, rising_removed, loses_at_place, loses_nothing}
use Rattle.chord_tree_store.proofs.value_set.ValueSet.remove.Goals as goal

pub invariant_of-self-clause-rises : goal.invariant_of-self-clause-rises
invariant_of-self-clause-rises c =
    let xs = c.args.self.now.values in
    let at = subst (λ (vs : List (List ℕ)). IsAt vs c.args.value.now c.in-Ok.place) c.as_slice.ensures c.in-Ok.ensures.found in
    subst (λ (vs : List (List ℕ)). IsStrictlySortedBy (slice_cmp nat_cmp) vs) (sym c.remove.ensures.rest) (rising_removed xs c.args.value.now c.in-Ok.place c.args.self.now.rises at)

pub invariant_of-self-clause-some : goal.invariant_of-self-clause-some
invariant_of-self-clause-some c =
    let xs = c.args.self.now.values in
    let at = subst (λ (vs : List (List ℕ)). IsAt vs c.args.value.now c.in-Ok.place) c.as_slice.ensures c.in-Ok.ensures.found in
    omega (arith, ap length c.remove.ensures.rest, length-remove xs c.in-Ok.place at.in_range, others_at xs c.args.value.now c.in-Ok.place at c.requires)

pub invariant_of-self-clause-few : goal.invariant_of-self-clause-few
invariant_of-self-clause-few c =
    let xs = c.args.self.now.values in
    let at = subst (λ (vs : List (List ℕ)). IsAt vs c.args.value.now c.in-Ok.place) c.as_slice.ensures c.in-Ok.ensures.found in
    omega (arith, ap length c.remove.ensures.rest, length-remove xs c.in-Ok.place at.in_range, c.args.self.now.few)

pub returns-in-Ok-clause-was_there : goal.returns-in-Ok-clause-was_there
returns-in-Ok-clause-was_there c =
    let at = subst (λ (vs : List (List ℕ)). IsAt vs c.args.value.now c.in-Ok.place) c.as_slice.ensures c.in-Ok.ensures.found in
    sym (has_at_place c.args.self.now.values c.args.value.now c.in-Ok.place at)

pub returns-in-Ok-clause-change : goal.returns-in-Ok-clause-change
returns-in-Ok-clause-change c =
    let at = subst (λ (vs : List (List ℕ)). IsAt vs c.args.value.now c.in-Ok.place) c.as_slice.ensures c.in-Ok.ensures.found in
    loses_at_place c.args.self.now.values c.remove.new.self c.args.value.now c.in-Ok.place c.args.self.now.rises at c.remove.ensures.rest

pub returns-in-Err-clause-was_there : goal.returns-in-Err-clause-was_there
returns-in-Err-clause-was_there c =
    let gap = subst (λ (vs : List (List ℕ)). IsGapFor (slice_cmp nat_cmp) vs c.args.value.now c.in-Err.field-0) c.as_slice.ensures c.in-Err.ensures.absent in
    sym (has_not_in_gap c.args.self.now.values c.args.value.now c.in-Err.field-0 gap)

pub returns-in-Err-clause-change : goal.returns-in-Err-clause-change
returns-in-Err-clause-change c =
    let gap = subst (λ (vs : List (List ℕ)). IsGapFor (slice_cmp nat_cmp) vs c.args.value.now c.in-Err.field-0) c.as_slice.ensures c.in-Err.ensures.absent in
    loses_nothing c.args.self.now.values c.args.value.now (has_not_in_gap c.args.self.now.values c.args.value.now c.in-Err.field-0 gap)
