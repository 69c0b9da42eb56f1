use Rattle.std.proofs.Common.{◌≡◌, drop, None}
use Rattle.std.specs.Option.{option_copied}
use Rattle.chord_wire.specs.ReadingReplies.{rise_from}
use Rattle.chord_wire.proofs.writing.writable.are_values.Given as goal

abbrev pub invariant-loop-value : goal.invariant-loop-value
invariant-loop-value l = rise_from (option_copied l.before) (drop l.value-index l.values) ≡ rise_from None l.values
