use Rattle.std.proofs.Common.{◌≡◌, ◌≤◌, ◌+◌, ◌*◌, length, take}
use Rattle.std.specs.List.{flat_map}
use Rattle.chord_wire.specs.Spelling.{value_field}
use Rattle.chord_wire.proofs.writing.fields.values_len.Given as goal

abbrev pub invariant-loop-value : goal.invariant-loop-value
invariant-loop-value l = (l.len ≡ 4 + length (flat_map value_field (take l.value-index l.values))) × (l.len ≤ 4 + 4098 * l.value-index)
