use Rattle.std.proofs.Common.{ap, subst}
use Rattle.chord_live_steps.specs.Departures.{number_of}
use Rattle.chord_ring.specs.Ring.{CanDepart, Members}
use Rattle.chord_table.specs.Rings.{AreMembers}
use Rattle.chord_live_steps.proofs.surveying.depart_now.Goals as goal

pub crash-requires-clause-can : goal.crash-requires-clause-can
crash-requires-clause-can g c = subst (λ n. (members : Members) × AreMembers c.args.registrar.now members × CanDepart members n) (ap number_of c.in-Crash.is) c.requires.can

pub retire-requires-clause-can : goal.retire-requires-clause-can
retire-requires-clause-can g c = subst (λ n. (members : Members) × AreMembers c.args.registrar.now members × CanDepart members n) (ap number_of c.in-Retire.is) c.requires.can

pub retire-requires-clause-may : goal.retire-requires-clause-may
retire-requires-clause-may g c = c.requires.may c.in-Retire.number c.in-Retire.is
