use Rattle.std.proofs.Common.{◌≡◌, take}
use Rattle.chord_app_ask.specs.Histogram.{with_counts}
use Rattle.chord_app_ask.proofs.load.histogram.add_counts.Given as goal

abbrev pub invariant-loop-place : goal.invariant-loop-place
invariant-loop-place l = l.buckets.items ≡ with_counts l.initial.buckets.items (take l.place l.more)
