use Rattle.std.proofs.Common.{sym}
use Rattle.chord_node.proofs.Applying.{not_full_retrieve, not_full_remove}
use Rattle.chord_node.proofs.asks.apply.is_full.Goals as goal

pub returns-in-Retrieve-clause-answer : goal.returns-in-Retrieve-clause-answer
returns-in-Retrieve-clause-answer g c = rw c.in-Retrieve.is (sym (not_full_retrieve _ _ _))

pub returns-in-Remove-clause-answer : goal.returns-in-Remove-clause-answer
returns-in-Remove-clause-answer g c = rw c.in-Remove.is (sym (not_full_remove _ _ _ _))
