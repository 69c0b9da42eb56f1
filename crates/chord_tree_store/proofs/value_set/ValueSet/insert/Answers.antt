use Rattle.std.proofs.Common.{◌≡◌, ◌∙◌, ap, sym, subst, List, ℕ, nat_cmp, arith, Result, Ok, Err, OnOk, OnErr, refl}
use Rattle.std.proofs.lemmas.List.Edits.{length-insert}
use Rattle.std.specs.Cmp.Lexicographic.{slice_cmp}
use Rattle.std.specs.List.{insert as insert_at}
use Rattle.std.specs.List.Sorted.{IsStrictlySortedBy}
use Rattle.chord_map.specs.Places.{IsAt, IsGapFor}
use Rattle.chord_tree_store.proofs.Added.{refused_set}
use Rattle.chord_tree_store.proofs.ValueOrder.{has_at_place, has_not_in_gap, one_more, rising_at_gap, gains_at_gap}
use Rattle.chord_tree_store.proofs.value_set.ValueSet.insert.Goals as goal

-- the list is sorted whether the value was added or memory ran out
either : {T E : Type 0} (r : Result T E) (xs ys zs : List (List ℕ)) → OnOk r (ys ≡ zs) → OnErr r (ys ≡ xs) → IsStrictlySortedBy (slice_cmp nat_cmp) zs → IsStrictlySortedBy (slice_cmp nat_cmp) xs → IsStrictlySortedBy (slice_cmp nat_cmp) ys
either (Ok v) xs ys zs made same new old = subst (λ (vs : List (List ℕ)). IsStrictlySortedBy (slice_cmp nat_cmp) vs) (sym made) new
either (Err e) xs ys zs made same new old = subst (λ (vs : List (List ℕ)). IsStrictlySortedBy (slice_cmp nat_cmp) vs) (sym same) old

pub invariant_of-self : goal.invariant_of-self
invariant_of-self c =
    let xs = c.args.self.now.values in
    let e = c.args.value.now in
    let place = c.in-Err.field-0 in
    let gap = subst (λ (vs : List (List ℕ)). IsGapFor (slice_cmp nat_cmp) vs e place) c.as_slice.ensures c.in-Err.ensures.absent in
    let risen = subst (λ (v : List ℕ). IsStrictlySortedBy (slice_cmp nat_cmp) (insert_at xs place v)) (sym c.in_ok-value-in-Err-2.ensures.copy) (rising_at_gap xs e place gap c.args.self.now.rises) in
    let counted = one_more c.insert.result xs c.insert.new.self (insert_at xs place c.in_ok-value-in-Err-2.value) c.insert.ensures.ok c.insert.ensures.err (length-insert xs place c.in_ok-value-in-Err-2.value gap.in_range) c.args.self.now.some (omega arith) in
    record {
      rises = either c.insert.result xs c.insert.new.self (insert_at xs place c.in_ok-value-in-Err-2.value) c.insert.ensures.ok c.insert.ensures.err risen c.args.self.now.rises;
      some = counted.0;
      few = counted.1;
    }

pub returns-in-Ok : goal.returns-in-Ok
returns-in-Ok c =
    (has_at_place c.args.self.now.values c.args.value.now c.in-Ok.field-0 (subst (λ (vs : List (List ℕ)). IsAt vs c.args.value.now c.in-Ok.field-0) c.as_slice.ensures c.in-Ok.ensures.found), refl)

pub returns-in-Err : goal.returns-in-Err
returns-in-Err c =
    (has_not_in_gap c.args.self.now.values c.args.value.now c.in-Err.field-0 (subst (λ (vs : List (List ℕ)). IsGapFor (slice_cmp nat_cmp) vs c.args.value.now c.in-Err.field-0) c.as_slice.ensures c.in-Err.ensures.absent), omega arith, refl)

pub returns-in_err-value-in-Err-2 : goal.returns-in_err-value-in-Err-2
returns-in_err-value-in-Err-2 c =
    let gap = subst (λ (vs : List (List ℕ)). IsGapFor (slice_cmp nat_cmp) vs c.args.value.now c.in-Err.field-0) c.as_slice.ensures c.in-Err.ensures.absent in
    refused_set c.args.value.now c.args.self.now.values c.args.self.now.values _ c.from_residual.result c.from_residual.ensures.1 (has_not_in_gap c.args.self.now.values c.args.value.now c.in-Err.field-0 gap) (omega arith) refl

pub returns-in_err-insert-in-Err-2 : goal.returns-in_err-insert-in-Err-2
returns-in_err-insert-in-Err-2 c =
    let gap = subst (λ (vs : List (List ℕ)). IsGapFor (slice_cmp nat_cmp) vs c.args.value.now c.in-Err.field-0) c.as_slice.ensures c.in-Err.ensures.absent in
    refused_set c.args.value.now c.args.self.now.values c.insert.new.self _ c.from_residual-in_err-insert-in-Err-2.result c.from_residual-in_err-insert-in-Err-2.ensures.1 (has_not_in_gap c.args.self.now.values c.args.value.now c.in-Err.field-0 gap) (omega arith) c.in_err-insert-in-Err-2.ensures.err

pub returns-in_ok-insert-in-Err-2 : goal.returns-in_ok-insert-in-Err-2
returns-in_ok-insert-in-Err-2 c =
    let xs = c.args.self.now.values in
    let e = c.args.value.now in
    let gap = subst (λ (vs : List (List ℕ)). IsGapFor (slice_cmp nat_cmp) vs e c.in-Err.field-0) c.as_slice.ensures c.in-Err.ensures.absent in (
      has_not_in_gap xs e c.in-Err.field-0 gap,
      omega arith,
      gains_at_gap xs c.insert.new.self e c.in-Err.field-0 (c.in_ok-insert-in-Err-2.ensures.ok ∙ ap (λ (v : List ℕ). insert_at xs c.in-Err.field-0 v) c.in_ok-value-in-Err-2.ensures.copy),
    )
