use Rattle.std.proofs.Common.{ap}
use Rattle.chord_table.proofs.Keeping.{may_look, shown_true}
use Rattle.chord_table.specs.Views.{view_of_assembled}
use Rattle.chord_table.proofs.registrar.Registrar.see.Goals as goal

pub load-requires : goal.load-requires
load-requires g c = may_look (λ n. n) c.args.table.now.named c.self.invariant.0 c.args.table.now.some c.self.invariant.1

pub returns-clause-seen : goal.returns-clause-seen
returns-clause-seen g c = shown_true c.self.invariant.1 (ap view_of_assembled c.self.view_is) c.load.ensures.2.1
