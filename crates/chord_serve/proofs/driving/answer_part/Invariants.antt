use Rattle.std.proofs.Common.{◌<◌, ◌≤◌, length, []}
use Rattle.chord_serve.specs.Conversing.{Talks}
use Rattle.chord_serve.proofs.driving.answer_part.Given as goal

abbrev pub invariant-loop-alloc : goal.invariant-loop-alloc
invariant-loop-alloc g l = record {
  so : Talks g.P.Protocol.hears g.P.Protocol.says l.fn.protocol [] l.due l.protocol;
  idle : g.P.Protocol.idle l.protocol;
  within : g.P.Protocol.unread l.protocol ≤ g.P.Protocol.unread l.fn.protocol;
  shorter : 0 < length l.due → g.P.Protocol.unread l.protocol < g.P.Protocol.unread l.fn.protocol;
}

abbrev pub decreases-loop-alloc : goal.decreases-loop-alloc
decreases-loop-alloc g l = g.P.Protocol.unread l.protocol
