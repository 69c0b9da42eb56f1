use Rattle.std.proofs.Common.{◌≤◌, ap, arith, length}
use Rattle.chord_app_ask.specs.Recorded.{value_count}
use Rattle.chord_app_ask.proofs.Joined.{both_counts, joined_shape}
use Rattle.chord_app_ask.proofs.load.histogram.Histogram.join.Goals as goal

pub invariant_of-self : goal.invariant_of-self
invariant_of-self c =
    let few : length c.deref.result.now ≤ length c.self.inside.buckets.items =
    omega (
      arith,
      ap length c.deref.ensures.value,
      c.self.invariant.1.count,
      c.other.invariant.1.count,
    ) in
    let more = both_counts c.self.inside.buckets.items c.deref.result.now few in (
      omega (
        arith,
        c.in-Some.ensures,
        c.self.invariant.0,
        c.other.invariant.0,
        ap value_count c.deref.ensures.value,
        ap value_count c.add_counts.ensures,
        more,
      ),
      joined_shape c.self.inside.buckets.items c.deref.result.now c.add_counts.new.buckets.items
          c.add_counts.ensures c.self.invariant.1,
    )
