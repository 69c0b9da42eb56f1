use Rattle.chord_model.proofs.Merely.{taken_merely, back_merely, apart_merely}
use Rattle.chord_model.proofs.laws.no_clash.Goals as goal

pub returns-clause-taken : goal.returns-clause-taken
returns-clause-taken c = λ world part handover node reached was whole at stays next. taken_merely world reached part handover node was whole at stays next

pub returns-clause-taken_back : goal.returns-clause-taken_back
returns-clause-taken_back c = λ world ticket node item reached was at found. back_merely world reached ticket node item was at found

pub returns-clause-held : goal.returns-clause-held
returns-clause-held c = λ world number node reached at. apart_merely world reached number node at
