use Rattle.std.proofs.Common.{◌≡◌, ◌<◌, take}
use Rattle.chord_app_ask.specs.Recorded.{value_count}
use Rattle.chord_app_ask.proofs.load.histogram.least_with.Given as goal

abbrev pub invariant-loop-bucket : goal.invariant-loop-bucket
invariant-loop-bucket l =
    record { seen : l.seen ≡ value_count (take l.bucket-index l.buckets); less : l.seen < l.wanted }
