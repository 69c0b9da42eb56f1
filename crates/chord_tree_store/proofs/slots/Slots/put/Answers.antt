use Rattle.chord_tree_store.proofs.Added.{put_adds}
use Rattle.chord_tree_store.proofs.slots.Slots.put.Goals as goal

pub returns-clause-ok : goal.returns-clause-ok
returns-clause-ok c = put_adds c.args.pair.now c.args.self.now c.insert.new.self c.in_ok-insert.ensures.rising c.requires.few c.in_ok-insert.ensures.answer.1
