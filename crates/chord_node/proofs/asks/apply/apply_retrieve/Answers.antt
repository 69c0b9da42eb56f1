use Rattle.std.proofs.Common.{◌∙◌, refl}
use Rattle.chord_node.proofs.Applying.{not_full_retrieve, retrieved_for}
use Rattle.chord_node.proofs.asks.apply.apply_retrieve.Goals as goal

pub returns-in-Ok-share : goal.returns-in-Ok-share
returns-in-Ok-share g c = retrieved_for (g.S.EntryStore.content c.args.store.now) (g.S.EntryStore.limit c.args.store.now) c.args.key.now c.args.key.now c.in-Ok-share.values refl (c.in-Ok-share.ensures.same ∙ c.in-Ok.ensures.copy)

pub returns-in-Err : goal.returns-in-Err
returns-in-Err g c = (not_full_retrieve _ _ _, refl)

pub returns-in_default : goal.returns-in_default
returns-in_default g c = (not_full_retrieve _ _ _, refl)
