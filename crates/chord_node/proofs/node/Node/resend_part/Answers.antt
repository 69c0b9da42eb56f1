use Rattle.std.proofs.Common.{Ok, rules}
use Rattle.chord_node.proofs.Moving.{resend_steps}
use Rattle.chord_node.proofs.node.Node.resend_part.Goals as goal

pub returns-in-Ok-Some-clause-step : goal.returns-in-Ok-Some-clause-step
returns-in-Ok-Some-clause-step g c = resend_steps c.args.to c.args.number c.args.part c.args.self.now (Ok _) (search rules)
