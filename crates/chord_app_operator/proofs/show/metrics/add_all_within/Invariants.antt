use Rattle.std.proofs.Common.{◌≡◌, ◌++◌, drop, string_bytes}
use Rattle.std.specs.List.{flat_map}
use Rattle.chord_app_operator.specs.Metrics.{within_line}
use Rattle.chord_app_operator.proofs.show.metrics.add_all_within.Given as goal

abbrev pub invariant-loop-within : goal.invariant-loop-within
invariant-loop-within l =
    string_bytes l.text ++ flat_map (within_line l.name) (drop l.within-index l.all)
    ≡ string_bytes l.fn.text ++ flat_map (within_line l.name) l.all
