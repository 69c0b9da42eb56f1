-- How many values are under a key.
use Rattle.std.proofs.Common.{◌≡◌, ℕ, zero, suc, ◌+◌, ◌<◌, ◌≤◌, Bool, true, false, cond, not, inl, inr, List, [], ◌∷◌, ◌++◌, map, length, take, drop, get_or, Less, Equal, Greater, refl, sym, ap, ◌∙◌, subst, arith, bytes_eq}
use Rattle.std.specs.List.{filter}
use Rattle.std.proofs.lemmas.List.{take_more, take-append-drop}
use Rattle.chord_ident.specs.declared.span.Span.{Span}
use Rattle.chord_ident.specs.Circle.{in_span, key_id}
use Rattle.chord_map.specs.declared.pair.Pair.{Pair}
use Rattle.chord_map.specs.Map.{values_at, pair_cmp, by_order, same_pair, insert_pair, remove_pair, put_all}
use Rattle.chord_map.proofs.Lists.{Has, by_test, not_both}
use Rattle.chord_map.proofs.MapLemmas.{bytes_same, bytes_itself}
use Rattle.chord_store.specs.Inside.{pairs_inside, pairs_outside}
use Rattle.chord_store.specs.Store.{HasFew}
use Rattle.chord_store.proofs.Puts.{lies_in, each_inside}

-- the number of values under a key
abbrev pub count_at : List ℕ → List Pair → ℕ
count_at key pairs = length (values_at key pairs)

count-cons : (key : List ℕ) (pair : Pair) (pairs : List Pair) → count_at key (pair ∷ pairs) ≡ count_at key (pair ∷ []) + count_at key pairs
count-cons key pair pairs =
    let under : List Pair → List Pair = filter (λ (p : Pair). bytes_eq p.key key) in
    elim (bytes_eq pair.key key) as (λ b. length (map (λ (p : Pair). p.value) (cond b (pair ∷ under pairs) (under pairs))) ≡ length (map (λ (p : Pair). p.value) (cond b (pair ∷ []) [])) + count_at key pairs) [
      | true ↦ omega arith
      | false ↦ omega arith
    ]

count-append : (key : List ℕ) (xs ys : List Pair) → count_at key (xs ++ ys) ≡ count_at key xs + count_at key ys
count-append key [] ys = omega arith
count-append key (x ∷ xs) ys = omega (arith, count-cons key x (xs ++ ys), count-cons key x xs, count-append key xs ys)

-- a pair of the key counts once, one of another key not at all
count-one : (pair : Pair) → count_at pair.key (pair ∷ []) ≡ 1
count-one pair = ap (λ b. length (map (λ (p : Pair). p.value) (cond b (pair ∷ []) []))) (bytes_itself pair.key pair.key refl)

count-other : (key : List ℕ) (pair : Pair) → bytes_eq pair.key key ≡ false → count_at key (pair ∷ []) ≡ 0
count-other key pair other = ap (λ b. length (map (λ (p : Pair). p.value) (cond b (pair ∷ []) []))) other

count-insert : (key : List ℕ) (pair : Pair) (pairs : List Pair) → count_at key (insert_pair pair pairs) ≤ count_at key (pair ∷ []) + count_at key pairs
unfolding insert_pair
count-insert key pair [] = omega arith
count-insert key pair (first ∷ rest) =
    elim (pair_cmp pair first) as (λ o. count_at key (by_order o (pair ∷ (first ∷ rest)) (first ∷ rest) (first ∷ insert_pair pair rest)) ≤ count_at key (pair ∷ []) + count_at key (first ∷ rest)) [
      | Less ↦ omega (arith, count-cons key pair (first ∷ rest))
      | Equal ↦ omega arith
      | Greater ↦ omega (arith, count-cons key first (insert_pair pair rest), count-cons key first rest, count-insert key pair rest)
    ]

count-put_all : (key : List ℕ) (more pairs : List Pair) → count_at key (put_all more pairs) ≤ count_at key more + count_at key pairs
unfolding put_all
count-put_all key [] pairs = omega arith
count-put_all key (pair ∷ more) pairs = omega (arith, count-put_all key more (insert_pair pair pairs), count-insert key pair pairs, count-cons key pair more)

count-filter : (key : List ℕ) (test : Pair → Bool) (pairs : List Pair) → count_at key (filter test pairs) ≤ count_at key pairs
count-filter key test [] = omega arith
count-filter key test (first ∷ rest) =
    let more = count-filter key test rest in
    elim (test first) as (λ b. count_at key (cond b (first ∷ filter test rest) (filter test rest)) ≤ count_at key (first ∷ rest)) [
      | true ↦ omega (arith, count-cons key first (filter test rest), count-cons key first rest, more)
      | false ↦ omega (arith, count-cons key first rest, more)
    ]

-- one more pair, if there is room for it
pub few-insert : (pair : Pair) (pairs : List Pair) → HasFew pairs → count_at pair.key pairs < 1000 → HasFew (insert_pair pair pairs)
few-insert pair pairs few room key =
    by_test (bytes_eq pair.key key)
    (λ same.
    let is : pair.key ≡ key = bytes_same pair.key key same in
    subst (λ (k : List ℕ). count_at k (insert_pair pair pairs) ≤ 1000) is (omega (arith, count-insert pair.key pair pairs, count-one pair, room)))
    (λ other. omega (arith, count-insert key pair pairs, count-other key pair other, few key))

pub few-remove : (pair : Pair) (pairs : List Pair) → HasFew pairs → HasFew (remove_pair pair pairs)
unfolding remove_pair
few-remove pair pairs few key = omega (arith, count-filter key (λ (other : Pair). not (same_pair pair other)) pairs, few key)

pub few-outside : (span : Span) (pairs : List Pair) → HasFew pairs → HasFew (pairs_outside span pairs)
unfolding pairs_outside
few-outside span pairs few key = omega (arith, count-filter key (λ (pair : Pair). not (lies_in span pair)) pairs, few key)

-- a list with no pair in a span has none under a key there
count-vacant : (span : Span) (item : Pair) (pairs : List Pair) → lies_in span item ≡ true → pairs_inside span pairs ≡ [] → count_at item.key pairs ≡ 0
unfolding pairs_inside
count-vacant span item [] inside vacant = refl
count-vacant span item (first ∷ rest) inside vacant =
    by_test (lies_in span first)
    (λ t. let some : first ∷ pairs_inside span rest ≡ [] = sym (ap (λ b. cond b (first ∷ pairs_inside span rest) (pairs_inside span rest)) t) ∙ vacant in absurd cc)
    (λ f.
    let rest_vacant = sym (ap (λ b. cond b (first ∷ pairs_inside span rest) (pairs_inside span rest)) f) ∙ vacant in
    let other : bytes_eq first.key item.key ≡ false =
    by_test (bytes_eq first.key item.key) (λ same. not_both (lies_in span item) inside (ap (λ (k : List ℕ). in_span span (key_id k)) (sym (bytes_same first.key item.key same)) ∙ f)) (λ differ. differ) in
    omega (arith, count-cons item.key first rest, count-other item.key first other, count-vacant span item rest inside rest_vacant))

has_at : (pairs : List Pair) (i : ℕ) (d : Pair) → i < length pairs → Has pairs (get_or pairs i d)
has_at [] i d within = absurd (omega arith)
has_at (x ∷ xs) zero d within = inl refl
has_at (x ∷ xs) (suc i) d within = inr (has_at xs i d (omega arith))

-- each pair that is put in finds room in its set
pub room_for : (span : Span) (more pairs : List Pair) (i : ℕ) (item : Pair) → pairs_inside span pairs ≡ [] → pairs_inside span more ≡ more → HasFew more → i < length more → item ≡ get_or more i item
    → count_at item.key (put_all (take i more) pairs) < 1000
room_for span more pairs i item vacant within few at is =
    let inside : lies_in span item ≡ true = each_inside span more within item (subst (Has more) (sym is) (has_at more i item at)) in
    let next = ap (count_at item.key) (take_more more i item at ∙ ap (λ (x : Pair). take i more ++ x ∷ []) (sym is)) ∙ count-append item.key (take i more) (item ∷ []) in
    let whole = ap (count_at item.key) (sym (take-append-drop (i + 1) more)) ∙ count-append item.key (take (i + 1) more) (drop (i + 1) more) in
    omega (arith, count-put_all item.key (take i more) pairs, count-vacant span item pairs inside vacant, next, whole, count-one item, few item.key)
