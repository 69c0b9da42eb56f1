use Rattle.std.proofs.Common.{sym, arith}
use Rattle.chord_app_ask.proofs.Joined.{with_none, next_sum, next_counts}
use Rattle.chord_app_ask.proofs.load.histogram.add_counts.Goals as goal

pub loop-place-init : goal.loop-place-init
loop-place-init c = sym (with_none _)

pub overflow_add-index_mut : goal.overflow_add-index_mut
overflow_add-index_mut c =
    omega (
      arith,
      c.requires.fits,
      next_sum c.args.buckets.now.items c.args.more.now c.loop-place.buckets.items
          c.loop-place.place c.index_mut.result.now _ (record { bound = 0; count = 0 })
          c.loop-place.invariant c.index_mut.ensures.value c.loop-place-test.true c.requires.count,
    )

pub loop-place-preserved : goal.loop-place-preserved
loop-place-preserved c =
    next_counts c.args.buckets.now.items c.args.more.now c.loop-place.buckets.items
    c.loop-place.place c.index_mut.result.now _ (record { bound = 0; count = 0 })
    c.loop-place.invariant c.index_mut.ensures.value c.loop-place-test.true c.requires.count
