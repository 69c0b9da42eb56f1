use Rattle.std.proofs.Common.{◌≡◌, ◌++◌, drop, string_bytes}
use Rattle.chord_app_operator.specs.Lines.{pair_lines}
use Rattle.chord_app_operator.proofs.show.inserts.pair_lines.Given as goal

abbrev pub invariant-loop-pair : goal.invariant-loop-pair
invariant-loop-pair l = string_bytes l.text ++ pair_lines (drop l.pair-index l.pairs) ≡ pair_lines l.pairs
