use Rattle.std.proofs.Common.{◌≡◌, ◌++◌, drop, string_bytes}
use Rattle.std.specs.List.{flat_map}
use Rattle.chord_app_operator.specs.Lines.{further_item}
use Rattle.chord_app_operator.proofs.show.table.add_further_items.Given as goal

abbrev pub invariant-loop-item : goal.invariant-loop-item
invariant-loop-item l =
    string_bytes l.text ++ flat_map further_item (drop l.item-index l.items) ≡ string_bytes l.fn.text ++ flat_map further_item l.items
