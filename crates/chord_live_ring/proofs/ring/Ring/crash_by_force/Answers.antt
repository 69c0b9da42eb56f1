use Rattle.std.proofs.Common.{List, subst, sym}
use Rattle.chord_live_steps.specs.Departures.{AreOut}
use Rattle.chord_table.specs.Seen.{Sight}
use Rattle.chord_live_ring.proofs.ring.Ring.crash_by_force.Goals as goal

pub invariant_of-register : goal.invariant_of-register
invariant_of-register g c = record { rests = subst (λ (taken : List Sight). AreOut taken) (sym c.crashed_by_force-left.ensures.taken) c.args.register.now.rests }
