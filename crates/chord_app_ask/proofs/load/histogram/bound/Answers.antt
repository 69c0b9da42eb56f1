use Rattle.std.proofs.Common.{arith}
use Rattle.chord_app_ask.proofs.Buckets.{scaled}
use Rattle.chord_app_ask.proofs.load.histogram.bound.Goals as goal

pub overflow_mul-result : goal.overflow_mul-result
overflow_mul-result c =
    omega (arith, scaled c.args.place c.pow-scale.result c.pow-scale.ensures c.requires)

pub overflow_add-result-2 : goal.overflow_add-result-2
overflow_add-result-2 c =
    omega (arith, scaled c.args.place c.pow-scale.result c.pow-scale.ensures c.requires)
