use Rattle.chord_serve.proofs.Conversing.{Sent}
use Rattle.chord_serve.proofs.driving.answer_all.Given as goal

abbrev pub invariant-loop : goal.invariant-loop
invariant-loop g l =
    let d = g.P.Protocol in
    record {
      sent : Sent d.hears d.says d.stops d.rests l.fn.protocol (g.W.Write.contents l.fn.writer) (g.W.Write.contents l.writer) l.protocol;
      idle : d.idle l.protocol;
    }

abbrev pub decreases-loop : goal.decreases-loop
decreases-loop g l = g.P.Protocol.unread l.protocol
