-- When copies of the values under a key need memory.
use Rattle.std.proofs.Common.{◌≡◌, ◌<◌, ℕ, suc, Bool, true, cond, bytes_eq, List, [], ◌∷◌, ◌++◌, length, take, drop, get_or, filter, map, refl, sym, ap, subst, ◌∙◌}
use Rattle.std.proofs.Math.Seq.{split_at}
use Rattle.std.proofs.lemmas.List.{map-append}
use Rattle.std.proofs.lemmas.List.Elements.{filter-append}
use Rattle.chord_map.specs.Copies.{AreFew, IsShort}
use Rattle.chord_map.specs.Map.{values_at}
use Rattle.chord_map.specs.declared.pair.Pair.{Pair}

-- if a list of few values contains this one, it has only this one, and that is short
few_at : (before : List (List ℕ)) (value : List ℕ) (after : List (List ℕ)) → AreFew (before ++ value ∷ after) → (before ≡ []) × IsShort value
few_at [] value [] few = (refl, few)
few_at [] value (other ∷ after) few = absurd few
few_at (first ∷ []) value after few = absurd few
few_at (first ∷ second ∷ before) value after few = absurd few

-- the values of a list are those of its two parts
values_split : (key : List ℕ) (before after : List Pair) → values_at key (before ++ after) ≡ values_at key before ++ values_at key after
values_split key before after =
    ap (map (λ (pair : Pair). pair.value)) (filter-append (λ (pair : Pair). bytes_eq pair.key key) before after)
    ∙ map-append (λ (pair : Pair). pair.value) (filter (λ (pair : Pair). bytes_eq pair.key key) before) (filter (λ (pair : Pair). bytes_eq pair.key key) after)

-- if a key has few values, a pair of the key has none before it, and its value is short
pub few_before : (key : List ℕ) (pairs : List Pair) (i : ℕ) (pair : Pair) → i < length pairs → pair ≡ get_or pairs i pair → bytes_eq pair.key key ≡ true → AreFew (values_at key pairs)
    → (values_at key (take i pairs) ≡ []) × IsShort pair.value
few_before key pairs i pair less is same few =
    let rest : List Pair = drop (suc i) pairs in
    let split : pairs ≡ take i pairs ++ pair ∷ rest = split_at pairs i pair less ∙ ap (λ (x : Pair). take i pairs ++ x ∷ rest) (sym is) in
    let first : values_at key (pair ∷ rest) ≡ pair.value ∷ values_at key rest =
    ap (λ (b : Bool). map (λ (pair : Pair). pair.value) (cond b (pair ∷ filter (λ (pair : Pair). bytes_eq pair.key key) rest) (filter (λ (pair : Pair). bytes_eq pair.key key) rest))) same in
    few_at (values_at key (take i pairs)) pair.value (values_at key rest)
    (subst AreFew (ap (values_at key) split ∙ values_split key (take i pairs) (pair ∷ rest) ∙ ap (λ (vs : List (List ℕ)). values_at key (take i pairs) ++ vs) first) few)
