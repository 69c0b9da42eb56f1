use Rattle.chord_app_serve.proofs.plan_run.join_callers.Goals as goal

pub loop-thread-preserved : goal.loop-thread-preserved
loop-thread-preserved g c = c.in_ok-add.ensures c.loop-thread.invariant
