use Rattle.chord_floor.proofs.Merely.{behind_merely, before_merely}
use Rattle.chord_floor.proofs.laws.given_up_acts_before.Goals as goal

pub returns-clause-behind : goal.returns-clause-behind
returns-clause-behind c = λ old new later step ask reached is run. behind_merely c.one_holder.ensures old new step ask reached is later run

pub returns-clause-before : goal.returns-clause-before
returns-clause-before c = λ old new later step ask done reached is run stands of_caller of_id low.
    before_merely c.one_holder.ensures old new step ask reached is later run done stands of_caller of_id low
