use Rattle.std.proofs.Common.{ap}
use Rattle.chord_table.proofs.Keeping.{may_look, shown_true}
use Rattle.chord_table.proofs.Telling.{witness_told}
use Rattle.chord_table.specs.Seen.{Witnessed}
use Rattle.chord_table.proofs.witness.Witness.look.Goals as goal

pub load-requires : goal.load-requires
load-requires g c = may_look (λ n. n) c.args.table.now.named c.self.invariant.0 c.args.table.now.some c.self.invariant.1

pub returns-clause-shown : goal.returns-clause-shown
returns-clause-shown g c = witness_told c.args.self.now (shown_true c.self.invariant.1 (ap Witnessed c.self.view_is) c.load.ensures.2.1) c.each_scene_holds.ensures
