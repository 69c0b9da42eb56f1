use Rattle.std.proofs.Common.{◌≡◌, ◌<◌, ℕ, length, Some, slice_get}
use Rattle.chord_app_ask.specs.Recorded.{value_count}
use Rattle.chord_app_ask.specs.Histogram.{bound}
use Rattle.chord_app_ask.proofs.load.histogram.Histogram.new.Given as goal

abbrev pub invariant-loop-place : goal.invariant-loop-place
invariant-loop-place l = record {
  count : length l.buckets.items ≡ l.place;
  each : (k : ℕ) → k < l.place → slice_get l.buckets.items k
      ≡ Some (record { bound = bound k; count = 0 });
  none : value_count l.buckets.items ≡ 0;
}
