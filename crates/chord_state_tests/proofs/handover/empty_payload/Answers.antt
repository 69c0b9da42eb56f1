use Rattle.chord_handover.proofs.Payloads.{no_pairs}
use Rattle.chord_state_tests.proofs.handover.empty_payload.Goals as goal

pub new-requires-2 : goal.new-requires-2
new-requires-2 c = no_pairs c.empty.result.segment c.new.result.items c.new.ensures.items
