-- Lists of buckets, and sums over them.
use Rattle.std.proofs.Common.{◌≡◌, ℕ, zero, suc, ◌+◌, ◌-◌, ◌*◌, ◌/◌, ◌%◌, ◌^◌, ◌<◌, ◌≤◌, inl, inr}
use Rattle.std.proofs.Common.{List, [], ◌∷◌, ◌++◌, length, take, get_or, slice_get, Option, Some}
use Rattle.std.proofs.Common.{refl, sym, ap, subst, ◌∙◌, arith}
use Rattle.std.proofs.Math.Nat.{pow-le-pow_right, mul-le-mul_right}
use Rattle.std.proofs.lemmas.Bool.Decides.{leb_tells}
use Rattle.std.proofs.lemmas.List.{length-append}
use Rattle.std.proofs.lemmas.List.Sums.{sum_by-append, sum_by_more}
use Rattle.chord_app_ask.specs.declared.load.histogram.Bucket.{Bucket}
use Rattle.chord_app_ask.specs.Recorded.{value_count}
use Rattle.chord_app_ask.specs.Histogram.{bound, IsLeast}

-- the greatest value in a bucket is below 2^64
pub scaled : (place s : ℕ) → s ≡ 2 ^ (place / 16 - 1) → place < 976
    → (place % 16 + 16) * s + (s - 1) < 2 ^ 64
scaled place s e low =
    let two : 0 < 2 = omega arith in
    let exponent : place / 16 - 1 ≤ 59 = omega (arith, low) in
    let small : s ≤ 2 ^ 59 =
    subst (λ (n : ℕ). n ≤ 2 ^ 59) (sym e) (pow-le-pow_right two exponent) in
    let steps : place % 16 + 16 ≤ 31 = omega arith in
    let product = mul-le-mul_right s steps in
    omega (arith, small, product)

-- an empty bucket
abbrev pub empty : ℕ → Bucket
empty place = record { bound = bound place; count = 0 }

abbrev some : Bucket → Option Bucket
some b = Some b

abbrev with_bound : ℕ → Bucket
with_bound b = record { bound = b; count = 0 }

get_before : (xs : List Bucket) (y : Bucket) (k : ℕ) → k < length xs
    → slice_get (xs ++ y ∷ []) k ≡ slice_get xs k
get_before [] y k low = let no : ⊥ = omega (arith, low) in absurd no
get_before (x ∷ xs) y zero low = refl
get_before (x ∷ xs) y (suc k) low = get_before xs y k (omega (arith, low))

get_last : (xs : List Bucket) (y : Bucket) → slice_get (xs ++ y ∷ []) (length xs) ≡ Some y
get_last [] y = refl
get_last (x ∷ xs) y = get_last xs y

get_at : (xs : List Bucket) (n k : ℕ) → length xs ≡ n
    → ((j : ℕ) → j < n → slice_get xs j ≡ Some (empty j)) → k < n + 1
    → slice_get (xs ++ empty n ∷ []) k ≡ Some (empty k)
get_at xs n k count each low = elim (leb_tells n k) [
  | inl (t, above) ↦
      let same : k ≡ n = omega (arith, low, above) in
      let last : k ≡ length xs = same ∙ sym count in
      ap (slice_get (xs ++ empty n ∷ [])) last ∙ get_last xs (empty n)
      ∙ ap (λ (j : ℕ). some (empty j)) (sym same)
  | inr (f, below) ↦ get_before xs (empty n) k (omega (arith, below, count)) ∙ each k below
]

-- one more empty bucket
pub one_more : (xs ys : List Bucket) (n b : ℕ) → ys ≡ xs ++ record { bound = b; count = 0 } ∷ []
    → b ≡ bound n → length xs ≡ n → ((j : ℕ) → j < n → slice_get xs j ≡ Some (empty j))
    → value_count xs ≡ 0
    → (length ys ≡ n + 1) × ((k : ℕ) → k < n + 1 → slice_get ys k ≡ Some (empty k))
    × (value_count ys ≡ 0)
one_more xs ys n b more is count each none =
    let all : ys ≡ xs ++ empty n ∷ [] = more ∙ ap (λ (c : ℕ). xs ++ with_bound c ∷ []) is in (
      ap length all ∙ omega (arith, length-append xs (empty n ∷ []), count),
      (λ (k : ℕ) (low : k < n + 1). ap (λ (zs : List Bucket). slice_get zs k) all
          ∙ get_at xs n k count each low),
      ap value_count all ∙ sum_by-append (λ (x : Bucket). x.count) xs (empty n ∷ [])
          ∙ omega (arith, none),
    )

there_at : (xs : List Bucket) (k : ℕ) (d : Bucket) → k < length xs
    → slice_get xs k ≡ Some (get_or xs k d)
there_at [] k d low = let no : ⊥ = omega (arith, low) in absurd no
there_at (x ∷ xs) zero d low = refl
there_at (x ∷ xs) (suc k) d low = there_at xs k d (omega (arith, low))

-- the first bucket at which the sum of counts reaches `wanted`
pub least_at : (xs : List Bucket) (wanted seen k : ℕ) (d : Bucket) → k < length xs
    → seen ≡ value_count (take k xs) → seen < wanted → wanted ≤ seen + (get_or xs k d).count
    → IsLeast wanted (get_or xs k d).bound xs
least_at xs wanted seen k d low is less enough = record {
  place = k;
  bucket = get_or xs k d;
  there = there_at xs k d low;
  bound = refl;
  before = omega (arith, is, less);
  enough = omega (arith, is, enough, sum_by_more (λ (x : Bucket). x.count) xs k d low);
}
