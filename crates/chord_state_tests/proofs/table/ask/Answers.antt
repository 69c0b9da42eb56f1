use Rattle.std.proofs.Common.{None, Some, refl, sym, subst}
use Rattle.chord_caller.specs.Caller.{Caller}
use Rattle.chord_caller.specs.Caller.Letter.{AskLetter}
use Rattle.chord_table.specs.Views.{MayCall}
use Rattle.chord_state_tests.proofs.table.ask.Goals as goal

pub send-requires : goal.send-requires
send-requires g c =
    let sent = AskLetter c.in_ok-ask.ask in
    let seat = c.args.seat.now in
    record { event = (sent, refl, subst (λ (caller : Caller). MayCall caller seat.messages c.submit.new.self (Some sent)) (sym c.requires) (None, tt, c.in_ok-ask.ensures.step)) }
