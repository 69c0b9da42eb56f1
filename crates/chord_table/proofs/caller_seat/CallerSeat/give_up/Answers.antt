use Rattle.std.proofs.Common.{None}
use Rattle.chord_caller.specs.Caller.{with_given_up}
use Rattle.chord_table.proofs.Becoming.{caller_follows}
use Rattle.chord_table.proofs.caller_seat.CallerSeat.give_up.Goals as goal

pub local-requires : goal.local-requires
local-requires g c =
    record { event = (None, caller_follows c.self.inside.seat c.args.self.now (with_given_up c.args.number) None None c.self.invariant c.self.view_is tt c.requires.event) }
