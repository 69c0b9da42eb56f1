use Rattle.chord_caller.proofs.Steps.{resend_steps}
use Rattle.chord_state_tests.proofs.table.clients.sends_again.Goals as goal

pub resend-requires-2 : goal.resend-requires-2
resend-requires-2 g c = record { event = resend_steps 1 c.args.seat.now.caller c.in_ok-ask.ask (c.in_ok-ask.ensures.answer c.args.seat.now.caller c.requires) }
