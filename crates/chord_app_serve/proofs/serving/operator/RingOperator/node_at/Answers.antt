use Rattle.std.proofs.Common.{Option, subst}
use Rattle.std.specs.Prelude.{IfSome}
use Rattle.chord_live_ring.specs.Sights.{IsSightOf}
use Rattle.chord_sight.specs.declared.node.NodeSight.{NodeSight}
use Rattle.chord_app_serve.proofs.serving.operator.RingOperator.node_at.Goals as goal

pub returns : goal.returns
returns g c = (
  subst (λ (found : Option NodeSight). IfSome found (IsSightOf c.args.number)) c.in-Some.is c.in_ok-sight.ensures.shown,
  c.store_of-store.ensures,
)
