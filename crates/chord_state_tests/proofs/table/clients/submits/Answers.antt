use Rattle.chord_state_tests.proofs.Cores.{submission_steps}
use Rattle.chord_state_tests.proofs.table.clients.submits.Goals as goal

pub submit-requires-2 : goal.submit-requires-2
submit-requires-2 g c =
    record { event = submission_steps c.args.request c.in_ok-ask.ask c.args.core.now c.submit.new.self c.args.seat.now.caller c.in_ok-ask.ensures.answer c.requires }
