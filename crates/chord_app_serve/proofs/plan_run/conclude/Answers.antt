use Rattle.std.proofs.Common.{List, sym, subst}
use Rattle.chord_app_serve.specs.Together.{AreGroups}
use Rattle.chord_caller.specs.Caller.{Caller}
use Rattle.chord_app_serve.proofs.plan_run.conclude.Goals as goal

pub returns-then-closed : goal.returns-then-closed
returns-then-closed g c = record {
  assembled = c.close_with-closed.result.seats;
  answered = subst (λ (callers : List Caller). AreGroups callers c.args.run.all.items) (sym c.close_with-closed.ensures.callers) c.requires;
  shown = c.close_with-closed.ensures.whole c.if-closed.true;
}
