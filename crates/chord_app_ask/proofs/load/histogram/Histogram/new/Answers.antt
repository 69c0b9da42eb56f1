use Rattle.chord_app_ask.proofs.Buckets.{one_more}
use Rattle.chord_app_ask.proofs.load.histogram.Histogram.new.Goals as goal

pub loop-place-preserved : goal.loop-place-preserved
loop-place-preserved c =
    let i = c.loop-place.invariant in
    let more = one_more _ c.push.new.self.items c.loop-place.place c.bound-bound.result
    c.in_ok-push.ensures.items c.bound-bound.ensures i.count i.each i.none in
    record { count = more.0; each = more.1; none = more.2 }
