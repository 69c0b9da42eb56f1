-- The values that a map has under a key are values of a frame.
use Rattle.std.proofs.Common.{◌≡◌, ℕ, ◌≤◌, Bool, true, false, cond, List, [], ◌∷◌, length, map, filter, Ordering, Less, Equal, refl, sym, ap, ◌∙◌}
use Rattle.std.specs.Prelude.{bytes_eq}
use Rattle.std.specs.List.{AllByRecursion}
use Rattle.std.specs.List.Sorted.{IsStrictlySortedBy}
use Rattle.std.specs.Ordering.{nat_cmp, ordering_then}
use Rattle.std.specs.Cmp.Lexicographic.{slice_cmp}
use Rattle.std.proofs.lemmas.Cmp.{tied_itself}
use Rattle.std.proofs.lemmas.Slice.Eq.{bytes_eq-Decides}
use Rattle.chord_map.specs.declared.pair.Pair.{Pair}
use Rattle.chord_map.specs.Map.{pair_cmp, values_at}
use Rattle.chord_map.specs.Pairs.{IsRising}
use Rattle.chord_map.specs.Checked.{IsValue}
use Rattle.chord_map.proofs.MapLemmas.{values_total}
use Rattle.chord_wire.specs.Replies.{AreValues}

abbrev value_in : Pair → List ℕ
value_in pair = pair.value

abbrev under : List ℕ → Pair → Bool
under key pair = bytes_eq pair.key key

-- a property of the first value, if it is under the key, and of the others
by_key : (P : List (List ℕ) → Type 0) (key : List ℕ) (first : Pair) (rest : List Pair) → (bytes_eq first.key key ≡ true → P (first.value ∷ values_at key rest)) → P (values_at key rest) → P (values_at key (first ∷ rest))
by_key P key first rest here other =
    let go : (b : Bool) → bytes_eq first.key key ≡ b → P (map value_in (cond b (first ∷ filter (under key) rest) (filter (under key) rest))) = λ b. elim b as (λ v. bytes_eq first.key key ≡ v → P (map value_in (cond v (first ∷ filter (under key) rest) (filter (under key) rest)))) [
      | true ↦ λ e. here e
      | false ↦ λ e. other
    ] in
    go (bytes_eq first.key key) refl

less_value : (key : List ℕ) (a b : Pair) → bytes_eq a.key key ≡ true → bytes_eq b.key key ≡ true → pair_cmp a b ≡ Less → slice_cmp nat_cmp a.value b.value ≡ Less
less_value key a b ea eb less =
    let a-is : a.key ≡ key = (bytes_eq-Decides a.key key).0 ea in
    let b-is : b.key ≡ key = (bytes_eq-Decides b.key key).0 eb in
    let tied : slice_cmp nat_cmp a.key b.key ≡ Equal = ap (λ (k : List ℕ). slice_cmp nat_cmp k b.key) a-is ∙ ap (slice_cmp nat_cmp key) b-is ∙ tied_itself values_total key in
    sym (ap (λ (o : Ordering). ordering_then o (slice_cmp nat_cmp a.value b.value)) tied) ∙ less

all_less : (key : List ℕ) (first : Pair) (rest : List Pair) → bytes_eq first.key key ≡ true → AllByRecursion (λ (y : Pair). pair_cmp first y ≡ Less) rest → AllByRecursion (λ (v : List ℕ). slice_cmp nat_cmp first.value v ≡ Less) (values_at key rest)
all_less key first [] e all = tt
all_less key first (second ∷ rest) e all =
    by_key (AllByRecursion (λ (v : List ℕ). slice_cmp nat_cmp first.value v ≡ Less)) key second rest
    (λ e2. (less_value key first second e e2 all.0, all_less key first rest e all.1))
    (all_less key first rest e all.1)

values_rise : (key : List ℕ) (pairs : List Pair) → IsStrictlySortedBy pair_cmp pairs → IsStrictlySortedBy (slice_cmp nat_cmp) (values_at key pairs)
unfolding IsStrictlySortedBy
values_rise key [] sorted = tt
values_rise key (first ∷ rest) sorted =
    by_key (IsStrictlySortedBy (slice_cmp nat_cmp)) key first rest
    (λ e. (all_less key first rest e sorted.0, values_rise key rest sorted.1))
    (values_rise key rest sorted.1)

values_short : (key : List ℕ) (pairs : List Pair) → AllByRecursion (λ (pair : Pair). IsValue pair.value) pairs → AllByRecursion IsValue (values_at key pairs)
values_short key [] all = tt
values_short key (first ∷ rest) all =
    by_key (AllByRecursion IsValue) key first rest (λ e. (all.0, values_short key rest all.1)) (values_short key rest all.1)

pub map_values : (key : List ℕ) (pairs : List Pair) → IsRising pairs → AllByRecursion (λ (pair : Pair). IsValue pair.value) pairs → length (values_at key pairs) ≤ 1000 → AreValues (values_at key pairs)
map_values key pairs sorted short few = record { count = few; each = values_short key pairs short; rising = values_rise key pairs sorted }
