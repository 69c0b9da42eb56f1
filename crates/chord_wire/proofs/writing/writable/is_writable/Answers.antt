use Rattle.chord_wire.proofs.Rising.{tells}
use Rattle.chord_wire.proofs.writing.writable.is_writable.Goals as goal

pub returns-in-Values : goal.returns-in-Values
returns-in-Values c = tells c.are_values.result c.args.reply.now c.in-Values.values c.as_slice.result.now c.in-Values.is c.as_slice.ensures c.are_values.ensures
