use Rattle.std.proofs.Common.{sym, ap, ◌∙◌, subst}
use Rattle.chord_live_ring.specs.Seats.{HasPredecessor}
use Rattle.chord_live_ring.specs.Sights.{Seated}
use Rattle.chord_live_ring.proofs.Relinked.{in_live, in_out, may_forget}
use Rattle.chord_live_ring.proofs.seated_node.SeatedNode.forget_departed.Goals as goal

pub relink-requires-clause-live : goal.relink-requires-clause-live
relink-requires-clause-live g c = (in_live c.args.self.now.crashed c.args.self.now.node.phase c.requires.live).0

pub relink-requires-clause-step : goal.relink-requires-clause-step
relink-requires-clause-step g c =
    let mine = c.args.self.now in
    let old = c.args.old.now in
    let out = in_out old.crashed old.node.phase (sym c.is_member.ensures ∙ c.if-is_member.false) in
    let number = c.number.ensures ∙ ap (λ (s : Seated). s.node.number) c.old.view_is in
    may_forget mine.node old.node c.in-Some.links old.crashed (in_live mine.crashed mine.node.phase c.requires.live).1 out
    (subst (λ n. HasPredecessor n mine.node.links.predecessor) number c.in-Some.ensures.some.0) c.in-Some.ensures.some.1
