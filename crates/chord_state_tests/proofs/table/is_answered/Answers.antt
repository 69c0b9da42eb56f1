use Rattle.std.proofs.Common.{ap, ◌∙◌}
use Rattle.chord_state_tests.proofs.Entering.{callers_in, may_open_first}
use Rattle.chord_state_tests.proofs.table.is_answered.Goals as goal

pub admit_caller-caller-requires-clause-may : goal.admit_caller-caller-requires-clause-may
admit_caller-caller-requires-clause-may g c =
    may_open_first c.admit_node-seat.new.self.register.callers c.new-core.result (ap callers_in c.admit_node-seat.ensures.admitted ∙ ap callers_in c.assemble-table.ensures) c.new-core.ensures
