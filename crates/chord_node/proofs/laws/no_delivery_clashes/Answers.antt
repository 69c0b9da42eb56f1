use Rattle.chord_node.proofs.Clashing.{part_merely, declined_merely}
use Rattle.chord_node.proofs.laws.no_delivery_clashes.Goals as goal

pub returns-clause-taken : goal.returns-clause-taken
returns-clause-taken c = λ world part node new reached was at. part_merely world reached part node new was at

pub returns-clause-taken_back : goal.returns-clause-taken_back
returns-clause-taken_back c = λ world ticket node new reached was at. declined_merely world reached ticket node new was at
