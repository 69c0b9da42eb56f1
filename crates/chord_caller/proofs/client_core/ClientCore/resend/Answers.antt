use Rattle.std.proofs.Common.{rules}
use Rattle.chord_caller.proofs.ClientSteps.{resend_simulates}
use Rattle.chord_caller.proofs.client_core.ClientCore.resend.Goals as goal

pub returns-clause-answer : goal.returns-clause-answer
returns-clause-answer c = search rules

pub returns-clause-step : goal.returns-clause-step
returns-clause-step c = resend_simulates c.args.number c.args.self.now _ (returns-clause-answer c)
