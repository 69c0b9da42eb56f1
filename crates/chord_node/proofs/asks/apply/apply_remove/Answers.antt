use Rattle.std.proofs.Common.{refl}
use Rattle.chord_node.proofs.Applying.{removed_for}
use Rattle.chord_node.proofs.asks.apply.apply_remove.Goals as goal

pub returns-clause-applied : goal.returns-clause-applied
returns-clause-applied g c = removed_for c.remove-found.result _ _ _ _ _ _ _ _ refl c.as_slice.ensures c.remove-found.ensures.was_there c.remove-found.ensures.change c.reply_to_remove.ensures
