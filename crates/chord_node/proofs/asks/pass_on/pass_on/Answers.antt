use Rattle.std.proofs.Common.{ap}
use Rattle.chord_links.specs.declared.peer.Peer.{Peer}
use Rattle.chord_node.proofs.Passing.{passed_is, passed_takes}
use Rattle.chord_node.proofs.asks.pass_on.pass_on.Goals as goal

pub returns-clause-passed : goal.returns-clause-passed
returns-clause-passed c =
    passed_is c.args.links.now c.args.ask.now _ c.peer_of_hop-peer.result _ c.me.result.number c.in-Ok.request _ _ c.next_hop.ensures.rule c.requires
    c.peer_of_hop-peer.ensures (ap (λ (q : Peer). q.number) c.me.ensures) c.if-ask-eq0.false c.if-peer-me.false c.in-Ok.ensures.copy

pub returns-in_default-clause-memory : goal.returns-in_default-clause-memory
returns-in_default-clause-memory c =
    passed_takes c.args.links.now c.args.ask.now _ c.peer_of_hop-peer.result _ c.me.result.number c.next_hop.ensures.rule c.requires
    c.peer_of_hop-peer.ensures (ap (λ (q : Peer). q.number) c.me.ensures) c.if-ask-eq0.false c.if-peer-me.false
