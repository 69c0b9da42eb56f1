use Rattle.std.proofs.Common.{◌≡◌, ℕ, ◌<◌, ◌∙◌, sym, subst, bytes_eq, true, List, [], length, take, get_or}
use Rattle.std.proofs.lemmas.Bool.{true≢false}
use Rattle.chord_map.specs.Copies.{AreFew, IsShort}
use Rattle.chord_map.specs.Map.{values_at}
use Rattle.chord_map.specs.declared.pair.Pair.{Pair}
use Rattle.chord_map.proofs.Copied.{few_before}
use Rattle.chord_map.proofs.pair_list.PairList.values.Goals as goal

-- of few values, those before are few, and the value of the next pair is short
few_here : (key : List ℕ) (ps pairs : List Pair) (i : ℕ) (pair : Pair) → i < length ps → pair ≡ get_or ps i pair → bytes_eq pair.key key ≡ true → pairs ≡ ps → AreFew (values_at key pairs)
    → (values_at key (take i ps) ≡ []) × IsShort pair.value
few_here key ps pairs i pair less is same here few = few_before key ps i pair less is same (subst (λ (qs : List Pair). AreFew (values_at key qs)) here few)

pub returns-in_err-from_slice-clause-few : goal.returns-in_err-from_slice-clause-few
returns-in_err-from_slice-clause-few c = λ few.
    let first = few_here c.args.key.now _ _ c.loop-pair.pair-index c.pair-item.result c.loop-pair-test.true c.pair-item.is (cc) (sym c.self.view_is ∙ sym c.deref-pair-items.ensures.value) few in
    absurd (true≢false (sym (c.in_err-from_slice.ensures.short (subst IsShort (sym c.as_slice-then-eq.ensures) first.1))))

pub returns-in_err-push-clause-few : goal.returns-in_err-push-clause-few
returns-in_err-push-clause-few c = λ few.
    let first = few_here c.args.key.now _ _ c.loop-pair.pair-index c.pair-item.result c.loop-pair-test.true c.pair-item.is (cc) (sym c.self.view_is ∙ sym c.deref-pair-items.ensures.value) few in
    absurd (true≢false (sym (c.in_err-push.ensures.first (c.loop-pair.invariant ∙ first.0))))
