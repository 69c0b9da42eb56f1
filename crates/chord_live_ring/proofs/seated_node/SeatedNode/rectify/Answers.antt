use Rattle.std.proofs.Common.{true, ap, ◌∙◌}
use Rattle.chord_links.specs.declared.peer.Peer.{Peer}
use Rattle.chord_ring.specs.Steps.{gives_way, rectified_links}
use Rattle.chord_live_ring.specs.Sights.{Seated}
use Rattle.chord_live_ring.proofs.Relinked.{beside, in_live, may_rectify}
use Rattle.chord_live_ring.proofs.seated_node.SeatedNode.rectify.Goals as goal

pub relink-requires-clause-live : goal.relink-requires-clause-live
relink-requires-clause-live g c = (in_live c.args.self.now.crashed c.args.self.now.node.phase c.requires.live).0

pub relink-requires-clause-step : goal.relink-requires-clause-step
relink-requires-clause-step g c =
    let mine = c.args.self.now in
    let notifier = c.args.notifier.now in
    let read = c.links.ensures ∙ ap (λ (s : Seated). s.node.links) c.self.view_is in
    let theirs = c.links-2.ensures ∙ ap (λ (s : Seated). s.node.links) c.notifier.view_is in
    beside mine.node (record mine.node { links = c.rectify-gives.new.me }) notifier c.requires.notifier_live
    (may_rectify mine.node notifier.node c.links.result.now c.links-2.result.now c.rectify-gives.new.me read theirs (in_live mine.crashed mine.node.phase c.requires.live).1
    (in_live notifier.crashed notifier.node.phase c.requires.notifier_live).1 c.rectify-gives.result c.if-gives.true
    (c.rectify-gives.ensures.answer ∙ ap (λ (p : Peer). gives_way c.links.result.now.me p true c.links.result.now.predecessor) c.me.ensures)
    (c.rectify-gives.ensures.done ∙ ap (λ (p : Peer). rectified_links c.links.result.now p c.rectify-gives.result) c.me.ensures))
