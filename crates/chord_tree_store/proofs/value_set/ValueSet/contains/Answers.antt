use Rattle.std.proofs.Common.{◌≡◌, ◌∙◌, ap, sym, List, Ok, Err, Result, ℕ, IfOk, IfErr, is_ok, nat_cmp}
use Rattle.std.specs.Cmp.Lexicographic.{slice_cmp}
use Rattle.chord_map.specs.Places.{IsAt, IsGapFor}
use Rattle.chord_tree_store.specs.ValueSet.{has_value}
use Rattle.chord_tree_store.proofs.ValueOrder.{has_at_place, has_not_in_gap}
use Rattle.chord_tree_store.proofs.value_set.ValueSet.contains.Goals as goal

found_says : (xs : List (List ℕ)) (e : List ℕ) (r : Result ℕ ℕ) → IfOk r (IsAt xs e) → IfErr r (IsGapFor (slice_cmp nat_cmp) xs e) → is_ok r ≡ has_value e xs
found_says xs e (Ok place) at gap = sym (has_at_place xs e place at)
found_says xs e (Err place) at gap = sym (has_not_in_gap xs e place gap)

pub returns : goal.returns
returns c =
    c.is_ok.ensures.value ∙ found_says c.as_slice.result.now c.args.value.now c.place_of.result c.place_of.ensures.found c.place_of.ensures.absent
    ∙ ap (has_value c.args.value.now) c.as_slice.ensures
