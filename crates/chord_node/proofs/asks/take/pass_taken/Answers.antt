use Rattle.std.proofs.Common.{ap, refl}
use Rattle.chord_links.specs.declared.peer.Peer.{Peer}
use Rattle.chord_node.proofs.Passing.{passed_is}
use Rattle.chord_node.proofs.asks.take.pass_taken.Goals as goal

pub returns : goal.returns
returns c =
    passed_is c.args.links.now c.args.ask _ c.peer_of_hop-peer.result _ c.me.result.number c.args.ask.request _ _ c.next_hop.ensures.rule c.requires
    c.peer_of_hop-peer.ensures (ap (λ (q : Peer). q.number) c.me.ensures) c.if-ask-eq0.false c.if-peer-me.false refl
