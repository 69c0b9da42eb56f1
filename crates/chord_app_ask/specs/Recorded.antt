-- How many values buckets have. Source: our own.
use Rattle.std.specs.Prelude.{ℕ, List}
use Rattle.std.specs.List.{sum_by}
use Rattle.chord_app_ask.specs.declared.load.histogram.Bucket.{Bucket}

abbrev pub value_count : List Bucket → ℕ
value_count buckets = sum_by (λ (b : Bucket). b.count) buckets
