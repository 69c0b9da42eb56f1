-- Many pairs put into a map, and taken out again.
use Rattle.std.proofs.Common.{◌≡◌, ℕ, ◌+◌, ◌<◌, ◌≤◌, Bool, true, false, cond, not, List, [], ◌∷◌, ◌++◌, length, take, get_or, Less, Equal, Greater, refl, sym, ap, ◌∙◌, subst, arith, inl, inr, ◌^◌, map, bytes_eq}
use Rattle.std.specs.List.{filter}
use Rattle.std.proofs.lemmas.List.{take_more}
use Rattle.chord_ident.specs.declared.id.Id.{Id}
use Rattle.chord_ident.specs.declared.span.Span.{Span}
use Rattle.chord_ident.proofs.Spans.{whole_circle}
use Rattle.chord_ident.proofs.Digest.{key_id-below}
use Rattle.chord_ident.specs.Circle.{in_span, key_id}
use Rattle.chord_map.specs.declared.pair.Pair.{Pair}
use Rattle.chord_map.specs.Map.{values_at, pair_cmp, by_order, insert_pair, put_all, reply_to, pairs_by, pairs_after}
use Rattle.chord_map.proofs.Lists.{Has, Each, has_filter, has_taken, by_test}
use Rattle.chord_map.proofs.Placed.{length-insert_le}
use Rattle.chord_map.proofs.Replies.{after_reply}
use Rattle.chord_store.specs.declared.outcome.Inserted.{Inserted}
use Rattle.chord_store.specs.declared.outcome.Inserted.TheVariants.{Added}
use Rattle.chord_store.specs.Inside.{pairs_inside, pairs_outside}
use Rattle.chord_store.specs.Store.{insertion, reply_for}

-- an insert that did as the map replies
pub did_is : (pair : Pair) (pairs pairs' : List Pair) (limit : ℕ) (did : Inserted) → reply_to (insertion pair) pairs ≡ reply_for did → (did ≡ Added → length pairs < limit)
    → pairs' ≡ pairs_by (insertion pair) (reply_for did) pairs
    → (reply_to (insertion pair) pairs ≡ reply_for did) × (did ≡ Added → length pairs < limit) × (pairs' ≡ pairs_after (insertion pair) pairs)
did_is pair pairs pairs' limit did due room change = (due, room, change ∙ sym (after_reply (insertion pair) (reply_for did) pairs due))

-- whether a pair's key lies in the span
abbrev pub lies_in : Span → Pair → Bool
lies_in span pair = in_span span (key_id pair.key)

-- one more pair at the end
pub put_all-push : (more : List Pair) (pair : Pair) (pairs : List Pair) → put_all (more ++ pair ∷ []) pairs ≡ insert_pair pair (put_all more pairs)
unfolding put_all
put_all-push [] pair pairs = refl
put_all-push (first ∷ more) pair pairs = put_all-push more pair (insert_pair first pairs)

-- one more pair
pub put_all-more : (more : List Pair) (i : ℕ) (d : Pair) (pairs : List Pair) → i < length more → put_all (take (i + 1) more) pairs ≡ insert_pair (get_or more i d) (put_all (take i more) pairs)
put_all-more more i d pairs within = ap (λ (xs : List Pair). put_all xs pairs) (take_more more i d within) ∙ put_all-push (take i more) (get_or more i d) pairs

-- an inserted pair that fails a test does not pass the filter
filter-insert : (test : Pair → Bool) (pair : Pair) (pairs : List Pair) → test pair ≡ false → filter test (insert_pair pair pairs) ≡ filter test pairs
unfolding insert_pair
filter-insert test pair [] fails = ap (λ b. cond b (pair ∷ []) []) fails
filter-insert test pair (first ∷ rest) fails =
    elim (pair_cmp pair first) as (λ o. filter test (by_order o (pair ∷ (first ∷ rest)) (first ∷ rest) (first ∷ insert_pair pair rest)) ≡ filter test (first ∷ rest)) [
      | Less ↦ ap (λ b. cond b (pair ∷ filter test (first ∷ rest)) (filter test (first ∷ rest))) fails
      | Equal ↦ refl
      | Greater ↦ ap (λ (xs : List Pair). cond (test first) (first ∷ xs) xs) (filter-insert test pair rest fails)
    ]

outside-put_all : (span : Span) (more pairs : List Pair) → Each (λ (pair : Pair). lies_in span pair ≡ true) more → pairs_outside span (put_all more pairs) ≡ pairs_outside span pairs
unfolding put_all pairs_outside
outside-put_all span [] pairs all = refl
outside-put_all span (pair ∷ more) pairs all =
    outside-put_all span more (insert_pair pair pairs) (λ x h. all x (inr h))
    ∙ filter-insert (λ (p : Pair). not (lies_in span p)) pair pairs (ap not (all pair (inl refl)))

-- nothing is dropped from a list with no pair in the span
pub outside_vacant : (span : Span) (pairs : List Pair) → pairs_inside span pairs ≡ [] → pairs_outside span pairs ≡ pairs
unfolding pairs_inside pairs_outside
outside_vacant span [] vacant = refl
outside_vacant span (first ∷ rest) vacant =
    by_test (lies_in span first)
    (λ t. let some : first ∷ pairs_inside span rest ≡ [] = sym (ap (λ b. cond b (first ∷ pairs_inside span rest) (pairs_inside span rest)) t) ∙ vacant in absurd (cc))
    (λ f. ap (λ b. cond (not b) (first ∷ pairs_outside span rest) (pairs_outside span rest)) f
    ∙ ap (λ (xs : List Pair). first ∷ xs) (outside_vacant span rest (sym (ap (λ b. cond b (first ∷ pairs_inside span rest) (pairs_inside span rest)) f) ∙ vacant)))

-- each pair of a list that lies in the span
pub each_inside : (span : Span) (more : List Pair) → pairs_inside span more ≡ more → Each (λ (pair : Pair). lies_in span pair ≡ true) more
unfolding pairs_inside
each_inside span more all x h = (has_filter (lies_in span) more x (subst (λ (xs : List Pair). Has xs x) (sym all) h)).1

-- taking the span out undoes putting the pairs in
pub undo : (span : Span) (more pairs : List Pair) (i : ℕ) → pairs_inside span pairs ≡ [] → pairs_inside span more ≡ more → pairs_outside span (put_all (take i more) pairs) ≡ pairs
undo span more pairs i vacant within =
    outside-put_all span (take i more) pairs (λ x h. each_inside span more within x (has_taken i more x h)) ∙ outside_vacant span pairs vacant

-- the pairs inside the span, as far as the scan has come
pub filter-push : {A : Type 0} (test : A → Bool) (xs : List A) (x : A) → filter test (xs ++ x ∷ []) ≡ cond (test x) (filter test xs ++ x ∷ []) (filter test xs)
filter-push test [] x = refl
filter-push test (y ∷ ys) x = elim (test y) as (λ b. cond b (y ∷ filter test (ys ++ x ∷ [])) (filter test (ys ++ x ∷ [])) ≡ cond (test x) (cond b (y ∷ filter test ys) (filter test ys) ++ x ∷ []) (cond b (y ∷ filter test ys) (filter test ys))) [
  | true ↦ ap (λ l. y ∷ l) (filter-push test ys x) ∙ elim (test x) as (λ c. y ∷ cond c (filter test ys ++ x ∷ []) (filter test ys) ≡ cond c (y ∷ filter test ys ++ x ∷ []) (y ∷ filter test ys)) [ true ↦ refl | false ↦ refl ]
  | false ↦ filter-push test ys x
]

pub inside-more : (span : Span) (pairs : List Pair) (i : ℕ) (d : Pair) → i < length pairs
    → pairs_inside span (take (i + 1) pairs) ≡ cond (lies_in span (get_or pairs i d)) (pairs_inside span (take i pairs) ++ get_or pairs i d ∷ []) (pairs_inside span (take i pairs))
unfolding pairs_inside
inside-more span pairs i d within = ap (filter (lies_in span)) (take_more pairs i d within) ∙ filter-push (lies_in span) (take i pairs) (get_or pairs i d)

-- no more pairs are left than there were
pub length-outside_le : (span : Span) (pairs : List Pair) → length (pairs_outside span pairs) ≤ length pairs
unfolding pairs_outside
length-outside_le span [] = omega arith
length-outside_le span (first ∷ rest) =
    let more = length-outside_le span rest in
    elim (not (lies_in span first)) as (λ b. length (cond b (first ∷ pairs_outside span rest) (pairs_outside span rest)) ≤ length (first ∷ rest)) [ true ↦ omega arith | false ↦ omega arith ]

-- each pair put in adds at most one
pub length-put_all_le : (more pairs : List Pair) → length (put_all more pairs) ≤ length pairs + length more
unfolding put_all
length-put_all_le [] pairs = omega arith
length-put_all_le (pair ∷ more) pairs = omega (arith, length-put_all_le more (insert_pair pair pairs), length-insert_le pair pairs)

-- the whole circle has every pair
pub inside_whole : (a : Id) (pairs : List Pair) → a.number < 2 ^ 128 → pairs_inside (record { after = a; upto = a }) pairs ≡ pairs
unfolding pairs_inside
inside_whole a [] small = refl
inside_whole a (pair ∷ more) small =
    let rest = inside_whole a more small in
    ap (λ b. cond b (pair ∷ pairs_inside (record { after = a; upto = a }) more) (pairs_inside (record { after = a; upto = a }) more)) (whole_circle a (key_id pair.key) small (key_id-below pair.key))
    ∙ ap (λ (ps : List Pair). pair ∷ ps) rest

-- a key has no more values than there are pairs
pub length-values_le : (key : List ℕ) (pairs : List Pair) → length (values_at key pairs) ≤ length pairs
length-values_le key [] = omega arith
length-values_le key (pair ∷ more) =
    let rest = length-values_le key more in
    elim (bytes_eq pair.key key) as (λ b. length (map (λ (p : Pair). p.value) (cond b (pair ∷ filter (λ (p : Pair). bytes_eq p.key key) more) (filter (λ (p : Pair). bytes_eq p.key key) more))) ≤ length (pair ∷ more)) [ true ↦ omega arith | false ↦ omega arith ]
