-- The values under a key in the pairs that a scan has passed.
use Rattle.std.proofs.Common.{◌≡◌, ℕ, ◌+◌, ◌<◌, Bool, true, false, cond, List, [], ◌∷◌, ◌++◌, length, get_or, take, map, refl, ap, ◌∙◌, bytes_eq}
use Rattle.std.specs.List.{filter}
use Rattle.std.proofs.lemmas.List.{take_more}
use Rattle.chord_map.specs.declared.pair.Pair.{Pair}
use Rattle.chord_map.specs.Map.{values_at}

under_first : (key : List ℕ) (first : Pair) (rest : List Pair) (x : Pair) (b : Bool)
    → values_at key (rest ++ x ∷ []) ≡ cond (bytes_eq x.key key) (values_at key rest ++ x.value ∷ []) (values_at key rest)
    → map (λ (pair : Pair). pair.value) (cond b (first ∷ filter (λ (pair : Pair). bytes_eq pair.key key) (rest ++ x ∷ [])) (filter (λ (pair : Pair). bytes_eq pair.key key) (rest ++ x ∷ [])))
    ≡ cond (bytes_eq x.key key)
    (map (λ (pair : Pair). pair.value) (cond b (first ∷ filter (λ (pair : Pair). bytes_eq pair.key key) rest) (filter (λ (pair : Pair). bytes_eq pair.key key) rest)) ++ x.value ∷ [])
    (map (λ (pair : Pair). pair.value) (cond b (first ∷ filter (λ (pair : Pair). bytes_eq pair.key key) rest) (filter (λ (pair : Pair). bytes_eq pair.key key) rest)))
under_first key first rest x false e = e
under_first key first rest x true e =
    ap (λ vs. first.value ∷ vs) e ∙ elim (bytes_eq x.key key) as (λ c. first.value ∷ cond c (values_at key rest ++ x.value ∷ []) (values_at key rest)
    ≡ cond c (first.value ∷ values_at key rest ++ x.value ∷ []) (first.value ∷ values_at key rest)) [ true ↦ refl | false ↦ refl ]

-- one pair at the end
pub values_at-push : (key : List ℕ) (pairs : List Pair) (x : Pair)
    → values_at key (pairs ++ x ∷ []) ≡ cond (bytes_eq x.key key) (values_at key pairs ++ x.value ∷ []) (values_at key pairs)
values_at-push key [] x = elim (bytes_eq x.key key) as (λ c. map (λ (pair : Pair). pair.value) (cond c (x ∷ []) []) ≡ cond c (x.value ∷ []) []) [ true ↦ refl | false ↦ refl ]
values_at-push key (first ∷ rest) x = under_first key first rest x (bytes_eq first.key key) (values_at-push key rest x)

-- one more pair
pub values_at-more : (key : List ℕ) (pairs : List Pair) (i : ℕ) (d : Pair) → i < length pairs
    → values_at key (take (i + 1) pairs) ≡ cond (bytes_eq (get_or pairs i d).key key) (values_at key (take i pairs) ++ (get_or pairs i d).value ∷ []) (values_at key (take i pairs))
values_at-more key pairs i d within = ap (values_at key) (take_more pairs i d within) ∙ values_at-push key (take i pairs) (get_or pairs i d)
