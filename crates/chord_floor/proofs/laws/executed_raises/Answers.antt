use Rattle.chord_floor.proofs.Merely.{raised_merely}
use Rattle.chord_floor.proofs.Raised.{added, nothing}
use Rattle.chord_floor.proofs.laws.executed_raises.Goals as goal

pub returns-clause-raised : goal.returns-clause-raised
returns-clause-raised c = λ old new step ask reached is. raised_merely c.one_holder.ensures old new step ask reached is

pub returns-clause-added : goal.returns-clause-added
returns-clause-added c = λ old new step ask is. added old new step ask is

pub returns-clause-others : goal.returns-clause-others
returns-clause-others c = λ old new step none. nothing old new step none
