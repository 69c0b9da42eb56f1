use Rattle.std.proofs.Common.{◌≡◌, ◌++◌, drop, string_bytes}
use Rattle.std.specs.List.{flat_map}
use Rattle.chord_app_operator.specs.Lines.{told_text}
use Rattle.chord_app_operator.proofs.show.table.add_all_told.Given as goal

abbrev pub invariant-loop-told : goal.invariant-loop-told
invariant-loop-told l = string_bytes l.text ++ flat_map told_text (drop l.told-index l.all) ≡ string_bytes l.fn.text ++ flat_map told_text l.all
