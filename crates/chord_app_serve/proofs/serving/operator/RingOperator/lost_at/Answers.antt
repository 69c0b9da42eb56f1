use Rattle.std.proofs.Common.{Option, subst}
use Rattle.std.specs.Prelude.{IfSome}
use Rattle.chord_live_ring.specs.Sights.{IsSightOf}
use Rattle.chord_sight.specs.declared.node.NodeSight.{NodeSight}
use Rattle.chord_app_serve.proofs.Losses.{lost_in}
use Rattle.chord_app_serve.proofs.serving.operator.RingOperator.lost_at.Goals as goal

pub returns : goal.returns
returns g c =
    let seen = subst (λ (found : Option NodeSight). IfSome found (IsSightOf c.args.number)) c.in-Some.is c.in_ok-sight.ensures.shown in (
      lost_in c.args.number c.in-Some.sight c.args.first c.lost_segment-segment.result seen c.lost_segment-segment.ensures,
      lost_in c.args.number c.in-Some.sight c.args.first c.lost_handover-handover.result seen c.lost_handover-handover.ensures,
    )
