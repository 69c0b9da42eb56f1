use Rattle.std.proofs.Common.{subst}
use Rattle.chord_map.specs.Pairs.{IsRising}
use Rattle.chord_store.specs.Store.{HasFew}
use Rattle.chord_tree_store.proofs.Gathered.{rising-in}
use Rattle.chord_tree_store.proofs.Placing.{few-in}
use Rattle.chord_tree_store.proofs.slots.Slots.len.Goals as goal

pub returns-clause-rising : goal.returns-clause-rising
returns-clause-rising c = subst IsRising c.self.view_is (rising-in c.self.inside.shelf)

pub returns-clause-few : goal.returns-clause-few
returns-clause-few c = subst HasFew c.self.view_is (few-in c.self.inside.shelf c.self.invariant.0)
