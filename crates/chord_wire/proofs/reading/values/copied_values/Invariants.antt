use Rattle.std.proofs.Common.{◌≡◌, ◌-◌, None}
use Rattle.std.specs.Option.{option_copied}
use Rattle.chord_wire.specs.ReadingReplies.{rising_at}
use Rattle.chord_wire.proofs.ValueLaws.{with_front}
use Rattle.chord_wire.proofs.reading.values.copied_values.Given as goal

abbrev pub invariant-loop : goal.invariant-loop
invariant-loop l = with_front l.values (rising_at l.number (option_copied l.before) (l.count - l.counter) l.rest) ≡ rising_at l.number None l.count l.bytes
