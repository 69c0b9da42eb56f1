use Rattle.std.proofs.Common.{◌≡◌, ◌++◌, drop, string_bytes}
use Rattle.std.specs.List.{flat_map}
use Rattle.chord_app_operator.specs.Metrics.{text_of}
use Rattle.chord_app_operator.proofs.show.metrics.add_metrics.Given as goal

abbrev pub invariant-loop-metric : goal.invariant-loop-metric
invariant-loop-metric l =
    string_bytes l.text ++ flat_map (text_of l.ring) (drop l.metric-index l.metrics) ≡ string_bytes l.fn.text ++ flat_map (text_of l.ring) l.metrics
