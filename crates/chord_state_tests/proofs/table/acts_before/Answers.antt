use Rattle.std.proofs.Common.{ap, ◌∙◌}
use Rattle.chord_state_tests.proofs.Entering.{callers_in}
use Rattle.chord_state_tests.proofs.table.acts_before.Goals as goal

pub comes-is_first-requires-clause-callers : goal.comes-is_first-requires-clause-callers
comes-is_first-requires-clause-callers g c = ap callers_in c.admit_node-seat.ensures.admitted ∙ ap callers_in c.assemble-table.ensures
