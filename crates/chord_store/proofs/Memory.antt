-- When copies need memory.
use Rattle.std.proofs.Common.{◌≡◌, ◌≢◌, ◌<◌, ℕ, suc, Bool, true, cond, List, [], ◌∷◌, ◌++◌, length, take, drop, get_or, filter, sym, ap, ◌∙◌}
use Rattle.std.proofs.Math.Seq.{split_at}
use Rattle.std.proofs.lemmas.List.Elements.{filter-append}
use Rattle.chord_ident.specs.Circle.{in_span, key_id}
use Rattle.chord_ident.specs.declared.span.Span.{Span}
use Rattle.chord_map.specs.declared.pair.Pair.{Pair}
use Rattle.chord_store.specs.Inside.{pairs_inside}

-- a list with an element is not empty
pub some_there : {A : Type 0} (x : A) (xs : List A) → x ∷ xs ≢ []
some_there x xs none = cc

-- if two joined lists are empty, the second one is
pub none_behind : {A : Type 0} (xs ys : List A) → xs ++ ys ≡ [] → ys ≡ []
none_behind [] ys none = none
none_behind (x ∷ xs) ys none = absurd (some_there x (xs ++ ys) none)

-- a pair at an index is not inside either
pub inside_at : (span : Span) (pairs : List Pair) (i : ℕ) (pair : Pair) → i < length pairs → pair ≡ get_or pairs i pair → in_span span (key_id pair.key) ≡ true → pairs_inside span pairs ≢ []
unfolding pairs_inside
inside_at span pairs i pair less is inside none =
    let p : Pair → Bool = λ q. in_span span (key_id q.key) in
    let rest : List Pair = drop (suc i) pairs in
    let split : filter p pairs ≡ filter p (take i pairs) ++ filter p (get_or pairs i pair ∷ rest) = ap (filter p) (split_at pairs i pair less) ∙ filter-append p (take i pairs) (get_or pairs i pair ∷ rest) in
    let last : filter p (get_or pairs i pair ∷ rest) ≡ [] = none_behind (filter p (take i pairs)) (filter p (get_or pairs i pair ∷ rest)) (sym split ∙ none) in
    let head : filter p (pair ∷ rest) ≡ pair ∷ filter p rest = ap (λ (b : Bool). cond b (pair ∷ filter p rest) (filter p rest)) inside in
    some_there pair (filter p rest) (sym head ∙ ap (λ (x : Pair). filter p (x ∷ rest)) is ∙ last)
