use Rattle.chord_app_serve.specs.Shown.{AreShown, store_of}
use Rattle.chord_app_serve.proofs.serving.operator.RingOperator.nodes.Given as goal

-- the nodes so far are shown
abbrev pub invariant-loop-slot : goal.invariant-loop-slot
invariant-loop-slot g l = AreShown (store_of l.self.desk.now.plan.now) l.nodes.items
