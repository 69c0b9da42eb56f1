use Rattle.std.proofs.Common.{refl}
use Rattle.chord_node.proofs.Applying.{inserted_for, refused_for}
use Rattle.chord_node.proofs.asks.apply.apply_insert.Goals as goal

pub returns-in-Err-clause-applied : goal.returns-in-Err-clause-applied
returns-in-Err-clause-applied g c = refused_for _ _ _ _ _ _ _ _ refl refl c.in-Err.ensures.answer

pub returns-in-Ok-clause-applied : goal.returns-in-Ok-clause-applied
returns-in-Ok-clause-applied g c = inserted_for _ _ _ _ _ _ _ _ _ refl refl c.in-Ok.ensures.answer c.reply_to_insert.ensures
