use Rattle.std.proofs.Common.{None, ap, ◌∙◌, sym}
use Rattle.chord_caller.specs.Caller.Letter.{NoteLetter}
use Rattle.chord_table.specs.Views.{CallerSight}
use Rattle.chord_live_steps.proofs.Coming.{took}
use Rattle.chord_live_steps.proofs.seated_caller.SeatedCore+J+CallerCore.meet.Goals as goal

pub local-requires : goal.local-requires
local-requires g c =
    let caller = λ (s : CallerSight). s.caller in
    let seat = c.receive.ensures.seat in
    record {
      event = (
        None,
        took c.self.inside.seat c.receive.new.self c.shown.inside.envelope (NoteLetter c.in-Note.note) c.self.inside.core c.meet.new.self seat c.in-Note.ensures.message
            (c.self.invariant ∙ sym (ap caller seat)) c.in-Ok.ensures.step,
      );
    }
