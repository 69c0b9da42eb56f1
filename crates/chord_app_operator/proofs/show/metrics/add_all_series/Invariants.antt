use Rattle.std.proofs.Common.{◌≡◌, ◌++◌, drop, string_bytes}
use Rattle.std.specs.List.{flat_map}
use Rattle.chord_app_operator.specs.Metrics.{lines_of}
use Rattle.chord_app_operator.proofs.show.metrics.add_all_series.Given as goal

abbrev pub invariant-loop-series : goal.invariant-loop-series
invariant-loop-series l =
    string_bytes l.text ++ flat_map (lines_of l.name l.ring) (drop l.series-index l.all) ≡ string_bytes l.fn.text ++ flat_map (lines_of l.name l.ring) l.all
