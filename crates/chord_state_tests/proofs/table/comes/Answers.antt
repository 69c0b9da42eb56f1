use Rattle.chord_state_tests.proofs.Entering.{may_open_first}
use Rattle.chord_state_tests.proofs.table.comes.Goals as goal

pub admit_caller-caller-requires-clause-may : goal.admit_caller-caller-requires-clause-may
admit_caller-caller-requires-clause-may g c = may_open_first c.args.registrar.now.register.callers c.new-core.result c.requires.callers c.new-core.ensures
