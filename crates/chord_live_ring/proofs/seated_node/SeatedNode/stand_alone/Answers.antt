use Rattle.std.proofs.Common.{◌≢◌, ap, ◌∙◌, sym, subst}
use Rattle.std.specs.Prelude.{is_some}
use Rattle.chord_model.specs.declared.phase.Phase.TheVariants.{Gone}
use Rattle.chord_model.specs.Node.{Node}
use Rattle.chord_live_ring.specs.Sights.{Seated}
use Rattle.chord_live_ring.proofs.Coming.{shown_by}
use Rattle.chord_live_ring.proofs.Relinked.{in_live, may_stand}
use Rattle.chord_live_ring.proofs.seated_node.SeatedNode.stand_alone.Goals as goal

pub relink_alone-requires : goal.relink_alone-requires
relink_alone-requires g c =
    let shows = shown_by c.self.inside.node c.self.inside.crashed c.self.inside.seat c.in-Some.seat c.in-Some.is c.self.invariant in
    let member = in_live c.args.self.now.crashed c.args.self.now.node.phase c.requires.live in
    let live = subst (λ (n : Node). n.phase ≢ Gone) (sym (ap (λ (s : Seated). s.node) c.self.view_is) ∙ shows.0) member.1 in
    record {
      live = sym shows.1 ∙ ap (λ (s : Seated). s.crashed) c.self.view_is ∙ member.0;
      step = may_stand c.in-Some.seat.node c.self.inside.node c.set_links.new.self c.links.result.now c.set_predecessor.new.self c.me-me.result shows.0 c.links.ensures live
          (sym (c.is_some.ensures ∙ ap is_some c.predecessor.ensures) ∙ c.if-is_some.false) c.me-me.ensures c.set_predecessor.ensures c.set_links.ensures.value;
    }
