-- Adding the counts of a list of buckets to those of another.
use Rattle.std.proofs.Common.{◌≡◌, ℕ, zero, suc, ◌+◌, ◌<◌, ◌≤◌, List, [], ◌∷◌, length, take, get_or}
use Rattle.std.proofs.Common.{length-set, slice_get, slice_set, Option, option_map, Some, refl, sym}
use Rattle.std.proofs.Common.{ap, subst, ◌∙◌, arith}
use Rattle.std.proofs.lemmas.List.{length-take-le}
use Rattle.std.proofs.lemmas.Option.{slice_get-map, slice_get-get_or}
use Rattle.std.proofs.lemmas.List.Sums.{get_or-le-sum_by, sum_by-cons, sum_by-set}
use Rattle.chord_app_ask.specs.declared.load.histogram.Bucket.{Bucket}
use Rattle.chord_app_ask.specs.Recorded.{value_count}
use Rattle.chord_app_ask.specs.Histogram.{bound, bounds_of, with_counts, with_more, HasBounds}
use Rattle.chord_app_ask.specs.Histogram.{IsNew}

abbrev some : Bucket → Option Bucket
some b = Some b

pub with_none : (xs : List Bucket) → with_counts xs [] ≡ xs
with_none [] = refl
with_none (x ∷ xs) = refl

pub same_length : (xs ys : List Bucket) → length (with_counts xs ys) ≡ length xs
same_length [] ys = refl
same_length (x ∷ xs) [] = refl
same_length (x ∷ xs) (y ∷ ys) = ap suc (same_length xs ys)

pub same_bounds : (xs ys : List Bucket) → bounds_of (with_counts xs ys) ≡ bounds_of xs
same_bounds [] ys = refl
same_bounds (x ∷ xs) [] = refl
same_bounds (x ∷ xs) (y ∷ ys) = ap (λ (bounds : List ℕ). x.bound ∷ bounds) (same_bounds xs ys)

-- the total is that of both
pub both_counts : (xs ys : List Bucket) → length ys ≤ length xs
    → value_count (with_counts xs ys) ≡ value_count xs + value_count ys
both_counts [] [] few = refl
both_counts [] (y ∷ ys) few = let no : ⊥ = omega (arith, few) in absurd no
both_counts (x ∷ xs) [] few = omega arith
both_counts (x ∷ xs) (y ∷ ys) few =
    let rest = both_counts xs ys (omega (arith, few)) in
    let one = sum_by-cons (λ (b : Bucket). b.count) x xs in
    let other = sum_by-cons (λ (b : Bucket). b.count) y ys in
    let both = sum_by-cons (λ (b : Bucket). b.count) (with_more y.count x) (with_counts xs ys) in
    both ∙ omega (arith, rest, one, other)

count_there : (xs ys : List Bucket) (k : ℕ) (d : Bucket) → length ys ≤ k
    → get_or (with_counts xs ys) k d ≡ get_or xs k d
count_there [] ys k d low = refl
count_there (x ∷ xs) [] k d low = refl
count_there (x ∷ xs) (y ∷ ys) zero d low = let no : ⊥ = omega (arith, low) in absurd no
count_there (x ∷ xs) (y ∷ ys) (suc k) d low = count_there xs ys k d (omega (arith, low))

next_fits : (xs ys : List Bucket) (k : ℕ) (d e : Bucket) → k < length ys → length ys ≤ length xs
    → (get_or (with_counts xs (take k ys)) k d).count + (get_or ys k e).count
    ≤ value_count xs + value_count ys
next_fits xs ys k d e low few =
    let len = length-take-le k ys (omega (arith, low)) in
    let there = ap (λ (b : Bucket). b.count)
    (count_there xs (take k ys) k d (omega (arith, len))) in
    let one = get_or-le-sum_by (λ (b : Bucket). b.count) xs k d (omega (arith, low, few)) in
    let other = get_or-le-sum_by (λ (b : Bucket). b.count) ys k e low in
    omega (arith, there, one, other)

next_count_of : (xs ys : List Bucket) (k : ℕ) (d e : Bucket) → k < length ys → length ys ≤ length xs
    → slice_set (with_counts xs (take k ys)) k
    (with_more (get_or ys k e).count (get_or (with_counts xs (take k ys)) k d))
    ≡ with_counts xs (take (suc k) ys)
next_count_of [] ys k d e low few = let no : ⊥ = omega (arith, low, few) in absurd no
next_count_of (x ∷ xs) [] k d e low few = let no : ⊥ = omega (arith, low) in absurd no
next_count_of (x ∷ xs) (y ∷ ys) zero d e low few =
    ap (λ (buckets : List Bucket). with_more y.count x ∷ buckets) (sym (with_none xs))
next_count_of (x ∷ xs) (y ∷ ys) (suc k) d e low few =
    ap (λ (buckets : List Bucket). with_more y.count x ∷ buckets)
    (next_count_of xs ys k d e (omega (arith, low)) (omega (arith, few)))

-- a count that changes leaves the bounds
pub bounds_stay : (xs : List Bucket) (k n : ℕ) (b d : Bucket) → b ≡ get_or xs k d
    → bounds_of (slice_set xs k (record { bound = b.bound; count = n })) ≡ bounds_of xs
bounds_stay [] k n b d same = refl
bounds_stay (x ∷ xs) zero n b d same = ap (λ (c : Bucket). c.bound ∷ bounds_of xs) same
bounds_stay (x ∷ xs) (suc k) n b d same =
    ap (λ (bounds : List ℕ). x.bound ∷ bounds) (bounds_stay xs k n b d same)

same_shape : (xs ys : List Bucket) → length ys ≡ length xs → bounds_of ys ≡ bounds_of xs
    → HasBounds xs → HasBounds ys
same_shape xs ys len bounds shape = record {
  count = len ∙ shape.count;
  each = λ (place : ℕ) (low : place < 976). ap (λ (all : List ℕ). slice_get all place) bounds
      ∙ shape.each place low;
}

-- the bounds of a list of buckets with more counts
pub joined_shape : (xs ys zs : List Bucket) → zs ≡ with_counts xs ys → HasBounds xs → HasBounds zs
joined_shape xs ys zs is shape =
    same_shape xs zs (ap length is ∙ same_length xs ys) (ap bounds_of is ∙ same_bounds xs ys) shape

-- the bounds of a list of buckets of which one has another count
pub set_shape : (xs : List Bucket) (k n : ℕ) (b d : Bucket) → b ≡ get_or xs k d → HasBounds xs
    → HasBounds (slice_set xs k (record { bound = b.bound; count = n }))
set_shape xs k n b d same shape =
    same_shape xs _ (length-set xs k (record { bound = b.bound; count = n }))
    (bounds_stay xs k n b d same) shape

get_bound : (xs : List Bucket) (place : ℕ) (b : Bucket) → slice_get xs place ≡ Some b
    → slice_get (bounds_of xs) place ≡ Some b.bound
get_bound xs place b is = slice_get-map (λ (c : Bucket). c.bound) xs place
    ∙ ap (λ (found : Option Bucket). option_map (λ (c : Bucket). c.bound) found) is

-- the bounds of empty buckets
pub new_shape : (xs : List Bucket) → IsNew xs → HasBounds xs
new_shape xs new = record {
  count = new.count;
  each = λ (place : ℕ) (low : place < 976). get_bound xs place _ (new.each place low);
}

-- the bucket that is read at a place
pub read_at : (xs : List Bucket) (k : ℕ) (b d : Bucket) → k < length xs → b ≡ get_or xs k d
    → slice_get xs k ≡ Some b
read_at xs k b d low same = slice_get-get_or xs k d low ∙ ap (λ (c : Bucket). some c) (sym same)

-- one bucket's count changes the total
pub set_count : (xs : List Bucket) (k times : ℕ) (b d : Bucket) → k < length xs → b ≡ get_or xs k d
    → value_count (slice_set xs k (record { bound = b.bound; count = b.count + times }))
    ≡ value_count xs + times
set_count xs k times b d low same =
    let before = ap (λ (c : Bucket). c.count) same in
    let changed = sum_by-set (λ (c : Bucket). c.count) xs k
    (record { bound = b.bound; count = b.count + times }) d low in
    omega (arith, before, changed)

-- the counts of the bucket at the next place are within both totals
pub next_sum : (xs ys zs : List Bucket) (k : ℕ) (b d e : Bucket) → zs ≡ with_counts xs (take k ys)
    → b ≡ get_or zs k d → k < length ys → length ys ≤ length xs
    → b.count + (get_or ys k e).count ≤ value_count xs + value_count ys
next_sum xs ys zs k b d e is same low few =
    let here = ap (λ (c : Bucket). c.count)
    (same ∙ ap (λ (all : List Bucket). get_or all k d) is) in
    let fits = next_fits xs ys k d e low few in
    omega (arith, here, fits)

-- the bucket at the next place gets its count
pub next_counts : (xs ys zs : List Bucket) (k : ℕ) (b d e : Bucket)
    → zs ≡ with_counts xs (take k ys) → b ≡ get_or zs k d → k < length ys → length ys ≤ length xs
    → slice_set zs k (record { bound = b.bound; count = b.count + (get_or ys k e).count })
    ≡ with_counts xs (take (k + 1) ys)
next_counts xs ys zs k b d e is same low few =
    let after : suc k ≡ k + 1 = omega arith in
    ap (λ (c : Bucket). slice_set zs k (with_more (get_or ys k e).count c)) same
    ∙ ap (λ (all : List Bucket). slice_set all k (with_more (get_or ys k e).count (get_or all k d)))
    is
    ∙ next_count_of xs ys k d e low few
    ∙ ap (λ (n : ℕ). with_counts xs (take n ys)) after
