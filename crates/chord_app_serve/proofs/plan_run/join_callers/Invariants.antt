use Rattle.std.proofs.Common.{map}
use Rattle.chord_app_serve.specs.Together.{AreGroups, caller_in}
use Rattle.chord_app_serve.proofs.plan_run.join_callers.Given as goal

abbrev pub invariant-loop-thread : goal.invariant-loop-thread
invariant-loop-thread g l = AreGroups (map caller_in l.run.callers.items) l.run.all.items
