use Rattle.chord_app_ask.proofs.Buckets.{least_at}
use Rattle.chord_app_ask.proofs.load.histogram.least_with.Goals as goal

pub returns-then-wanted-seen-clause-least : goal.returns-then-wanted-seen-clause-least
returns-then-wanted-seen-clause-least c =
    least_at c.args.buckets.now c.args.wanted c.loop-bucket.seen c.loop-bucket.bucket-index _
    c.loop-bucket-test.true c.loop-bucket.invariant.seen c.loop-bucket.invariant.less
    c.if-wanted-seen.true
