use Rattle.std.proofs.Common.{◌≡◌, ◌++◌, length, take}
use Rattle.std.specs.Int.{w32, to_be_bytes}
use Rattle.std.specs.List.{flat_map}
use Rattle.chord_wire.specs.Spelling.{value_field}
use Rattle.chord_wire.proofs.writing.fields.put_values.Given as goal

abbrev pub invariant-loop-value : goal.invariant-loop-value
invariant-loop-value l = l.out.items ≡ l.fn.out.items ++ (to_be_bytes w32 (length l.values) ++ flat_map value_field (take l.value-index l.values))
