-- Which bucket a value is in, and percentiles. Source: our own.
use Rattle.std.specs.Prelude.{◌≡◌, ◌⊎◌, ℕ, ◌+◌, ◌-◌, ◌*◌, ◌/◌, ◌%◌, ◌^◌, ◌<◌, ◌≤◌, nat_lt, nat_le}
use Rattle.std.specs.Prelude.{if◌then◌else◌, Bool, true, false, List, [], ◌∷◌, length, take, map}
use Rattle.std.specs.Prelude.{Option, Some, None}
use Rattle.std.specs.List.{position, slice_get, slice_set}
use Rattle.chord_app_ask.specs.declared.load.histogram.Bucket.{Bucket}
use Rattle.chord_app_ask.specs.Recorded.{value_count}

-- the greatest value in the bucket at this index: 0 to 31 have a value each, and then each doubling
-- has 16 buckets
abbrev pub bound : ℕ → ℕ
bound place = if nat_lt place 32 then place else ((place % 16 + 17) * 2 ^ (place / 16 - 1) - 1)

-- the bounds of the buckets
abbrev pub bounds_of : List Bucket → List ℕ
bounds_of buckets = map (λ (b : Bucket). b.bound) buckets

-- there are 976 buckets, and each has the bound of its place
pub record HasBounds (buckets : List Bucket) : Type 0 where
  pub count : length buckets ≡ 976
  pub each : (place : ℕ) → place < 976 → slice_get (bounds_of buckets) place ≡ Some (bound place)

-- all 976 buckets are empty, and the last one's bound is 2^64 - 1
pub record IsNew (buckets : List Bucket) : Type 0 where
  pub count : length buckets ≡ 976
  pub each : (place : ℕ) → place < 976 → slice_get buckets place
      ≡ Some (record { bound = bound place; count = 0 })

-- the first bucket whose bound is not below the value
abbrev pub bucket_of : ℕ → List Bucket → Option ℕ
bucket_of value buckets = position (λ (b : Bucket). nat_le value b.bound) buckets

-- the bucket with this many more values
abbrev pub with_more : ℕ → Bucket → Bucket
with_more times b = record { bound = b.bound; count = b.count + times }

-- A value is counted this many times in its bucket. Nothing changes if there is no bucket for it,
-- or the total would be 2^64 or more.
abbrev pub RecordIs : Bool → ℕ → ℕ → (old new : List Bucket) → Type 0
RecordIs true value times old new = (place : ℕ) × (b : Bucket) × (bucket_of value old ≡ Some place)
    × (slice_get old place ≡ Some b) × (value_count old + times < 2 ^ 64)
    × (new ≡ slice_set old place (with_more times b))
RecordIs false value times old new =
    ((2 ^ 64 ≤ value_count old + times) ⊎ (bucket_of value old ≡ None)) × (new ≡ old)

-- how many values are this many thousandths of all, rounded up
abbrev pub rank_of : ℕ → ℕ → ℕ
rank_of thousandths total = (total * thousandths + 999) / 1000

-- the least bound with this many values at or below it
pub record IsLeast (many found : ℕ) (buckets : List Bucket) : Type 0 where
  pub place : ℕ
  pub bucket : Bucket
  pub there : slice_get buckets place ≡ Some bucket
  pub bound : bucket.bound ≡ found
  pub before : value_count (take place buckets) < many
  pub enough : many ≤ value_count (take (place + 1) buckets)

-- the least bound with this many thousandths of all values at or below it, or none if nothing was
-- recorded
abbrev pub PercentileIs : Option ℕ → ℕ → List Bucket → Type 0
PercentileIs None thousandths buckets = value_count buckets ≡ 0
PercentileIs (Some found) thousandths buckets =
    IsLeast (rank_of thousandths (value_count buckets)) found buckets

-- each bucket with the count of the other histogram's bucket at its place too
abbrev pub with_counts : List Bucket → List Bucket → List Bucket
with_counts [] more = []
with_counts (b ∷ buckets) [] = b ∷ buckets
with_counts (b ∷ buckets) (m ∷ more) = with_more m.count b ∷ with_counts buckets more

-- the values of both, or of the first alone if both together have 2^64 or more
abbrev pub joined : List Bucket → List Bucket → List Bucket
joined one other =
    if nat_lt (value_count one + value_count other) (2 ^ 64) then with_counts one other else one
