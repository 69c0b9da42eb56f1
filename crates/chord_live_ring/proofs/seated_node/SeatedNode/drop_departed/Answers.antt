use Rattle.std.proofs.Common.{sym, ap, ◌∙◌}
use Rattle.chord_live_ring.specs.Sights.{Seated}
use Rattle.chord_live_ring.proofs.Relinked.{in_live, in_out, may_drop}
use Rattle.chord_live_ring.proofs.seated_node.SeatedNode.drop_departed.Goals as goal

pub relink-requires-clause-live : goal.relink-requires-clause-live
relink-requires-clause-live g c = (in_live c.args.self.now.crashed c.args.self.now.node.phase c.requires.live).0

pub relink-requires-clause-step : goal.relink-requires-clause-step
relink-requires-clause-step g c =
    let mine = c.args.self.now in
    let head = c.args.head.now in
    let out = in_out head.crashed head.node.phase (sym c.is_member.ensures ∙ c.if-is_member.false) in
    let number = c.number.ensures ∙ ap (λ (s : Seated). s.node.number) c.head.view_is in
    may_drop mine.node head.node c.in-Some.links head.crashed (in_live mine.crashed mine.node.phase c.requires.live).1 out (c.in-Some.ensures.some.0 ∙ number) c.in-Some.ensures.some.2
