use Rattle.std.proofs.Common.{refl, sym, ap, ◌∙◌}
use Rattle.chord_live_ring.specs.Sights.{Seated}
use Rattle.chord_live_ring.proofs.Relinked.{beside, in_live, may_stabilise}
use Rattle.chord_live_ring.proofs.seated_node.SeatedNode.stabilise.Goals as goal

pub relink-requires-clause-live : goal.relink-requires-clause-live
relink-requires-clause-live g c = (in_live c.args.self.now.crashed c.args.self.now.node.phase c.requires.live).0

pub relink-requires-clause-step : goal.relink-requires-clause-step
relink-requires-clause-step g c =
    let mine = c.args.self.now in
    let head = c.args.head.now in
    let read = c.links.ensures ∙ ap (λ (s : Seated). s.node.links) c.self.view_is in
    let theirs = c.links-2.ensures ∙ ap (λ (s : Seated). s.node.links) c.head.view_is in
    let ok = c.in_ok-candidate.ensures.variant.0 refl in
    let member = sym c.is_member-live.ensures ∙ ok.0 in
    beside mine.node (record mine.node { links = c.stabilise.new.me }) head member
    (may_stabilise mine.node head.node c.links.result.now c.links-2.result.now c.stabilise.new.me read theirs (in_live mine.crashed mine.node.phase c.requires.live).1
    (in_live head.crashed head.node.phase member).1 ok.1 c.in_ok-candidate.ensures.done)
