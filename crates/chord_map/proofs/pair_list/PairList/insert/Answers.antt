use Rattle.std.proofs.Common.{sym, ap, ◌∙◌, subst, List, ◌≡◌, ℕ}
use Rattle.std.specs.List.{insert as insert_at}
use Rattle.chord_map.specs.declared.pair.Pair.{Pair}
use Rattle.chord_map.specs.Map.{pair_cmp, insert_pair}
use Rattle.chord_map.specs.Pairs.{IsRising}
use Rattle.chord_map.specs.Places.{IsAt, IsGapFor}
use Rattle.chord_map.proofs.Placed.{insert_present, insert_in_gap, rising-insert}
use Rattle.chord_map.proofs.pair_list.PairList.insert.Goals as goal

-- inserting at the gap is inserting the pair into the map
put : (ps ps' seen : List Pair) (e pair : Pair) (place : ℕ) → seen ≡ ps → IsGapFor pair_cmp seen e place → pair ≡ e → ps' ≡ insert_at ps place pair → ps' ≡ insert_pair e ps
put ps ps' seen e pair place same gap is made =
    made ∙ ap (λ (p : Pair). insert_at ps place p) is ∙ insert_in_gap ps e place (subst (λ (xs : List Pair). IsGapFor pair_cmp xs e place) same gap)

pub invariant_of-self-in-Err : goal.invariant_of-self-in-Err
invariant_of-self-in-Err c =
    let e : Pair = record { key = c.args.key.now; value = c.args.value.now } in
    let pair : Pair = record { key = c.in_ok-key-in-Err.key; value = c.in_ok-value-in-Err.value } in
    let is : pair ≡ e = λ i. record { key = c.in_ok-key-in-Err.ensures.copy i; value = c.in_ok-value-in-Err.ensures.copy i } in
    subst IsRising
    (sym (put c.self.inside.pairs.items _ c.as_slice.result.now e pair c.in-Err.place c.as_slice.ensures.value c.in-Err.ensures.absent is c.in_ok-insert-in-Err.ensures.items))
    (rising-insert e c.self.inside.pairs.items c.self.invariant)

pub returns-in-Ok-clause-ok : goal.returns-in-Ok-clause-ok
returns-in-Ok-clause-ok c =
    let e : Pair = record { key = c.args.key.now; value = c.args.value.now } in
    let at = subst (λ (ps : List Pair). IsAt ps e c.in-Ok.field-0) c.as_slice.ensures.value c.in-Ok.ensures.found in
    sym (ap (insert_pair e) (sym c.self.view_is) ∙ insert_present c.self.inside.pairs.items e c.in-Ok.field-0 c.self.invariant at ∙ c.self.view_is)

pub returns-in_ok-insert-in-Err-clause-ok : goal.returns-in_ok-insert-in-Err-clause-ok
returns-in_ok-insert-in-Err-clause-ok c =
    let e : Pair = record { key = c.args.key.now; value = c.args.value.now } in
    let pair : Pair = record { key = c.in_ok-key-in-Err.key; value = c.in_ok-value-in-Err.value } in
    let is : pair ≡ e = λ i. record { key = c.in_ok-key-in-Err.ensures.copy i; value = c.in_ok-value-in-Err.ensures.copy i } in
    put c.self.inside.pairs.items _ c.as_slice.result.now e pair c.in-Err.place c.as_slice.ensures.value c.in-Err.ensures.absent is c.in_ok-insert-in-Err.ensures.items
    ∙ ap (insert_pair e) c.self.view_is
