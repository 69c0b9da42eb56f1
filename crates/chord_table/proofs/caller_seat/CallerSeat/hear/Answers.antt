use Rattle.std.proofs.Common.{None, Some}
use Rattle.chord_caller.specs.Caller.Letter.{ToldLetter}
use Rattle.chord_caller.specs.Client.{caller_after_hearing}
use Rattle.chord_caller.proofs.ClientSteps.{hearing_steps}
use Rattle.chord_table.proofs.Becoming.{caller_follows}
use Rattle.chord_table.proofs.caller_seat.CallerSeat.hear.Goals as goal

pub local-requires : goal.local-requires
local-requires g c =
    let told = c.args.told.now in
    let now = c.args.self.now in
    record { event = (None, caller_follows c.self.inside.seat now (caller_after_hearing told) (Some (ToldLetter told)) None c.self.invariant c.self.view_is c.requires.came (hearing_steps told now.caller)) }
