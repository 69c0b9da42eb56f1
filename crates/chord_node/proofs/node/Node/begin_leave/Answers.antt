use Rattle.std.proofs.Common.{Ok, rules}
use Rattle.chord_node.proofs.Moving.{leave_steps}
use Rattle.chord_node.proofs.node.Node.begin_leave.Goals as goal

pub returns-clause-step : goal.returns-clause-step
returns-clause-step g c = leave_steps c.args.self.now (Ok tt) _ (search rules)
