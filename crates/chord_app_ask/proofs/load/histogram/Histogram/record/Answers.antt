use Rattle.std.proofs.Common.{◌≡◌, ◌+◌, ◌<◌, ◌∙◌, length, slice_get, List, refl, sym, ap, arith}
use Rattle.std.proofs.Common.{rules}
use Rattle.chord_app_ask.specs.declared.load.histogram.Bucket.{Bucket}
use Rattle.chord_app_ask.specs.Recorded.{value_count}
use Rattle.chord_app_ask.specs.Histogram.{bucket_of}
use Rattle.chord_app_ask.proofs.Joined.{read_at, set_count, set_shape}
use Rattle.chord_app_ask.proofs.load.histogram.Histogram.record.Goals as goal

pub invariant_of-self : goal.invariant_of-self
invariant_of-self c =
    let place = c.in-Some-bucket_of.place in
    let low : place < length c.self.inside.buckets.items =
    omega (arith, c.in-Some-bucket_of.ensures.bound, ap length c.deref.ensures.value) in
    let more = set_count c.self.inside.buckets.items place c.args.times c.index_mut.result.now _ low
    c.index_mut.ensures.value in (
      omega (arith, c.in-Some.ensures.1, c.self.invariant.0, more),
      set_shape c.self.inside.buckets.items place (c.index_mut.result.now.count + c.args.times)
          c.index_mut.result.now _ c.index_mut.ensures.value c.self.invariant.1,
    )

pub returns : goal.returns
returns c =
    let place = c.in-Some-bucket_of.place in
    let low : place < length c.self.inside.buckets.items =
    omega (arith, c.in-Some-bucket_of.ensures.bound, ap length c.deref.ensures.value) in
    let view : c.self.inside.buckets.items ≡ c.args.self.now = c.self.view_is in
    let there = ap (λ (all : List Bucket). slice_get all place) (sym view)
    ∙ read_at c.self.inside.buckets.items place c.index_mut.result.now _ low
    c.index_mut.ensures.value in (
      place,
      c.index_mut.result.now,
      search rules,
      there,
      omega (arith, c.in-Some.ensures.0, c.self.invariant.0, ap value_count view),
      search rules,
    )
