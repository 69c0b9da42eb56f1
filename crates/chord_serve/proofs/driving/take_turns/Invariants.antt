use Rattle.std.proofs.Common.{◌≡◌, ◌*◌, Ok}
use Rattle.chord_serve.specs.BytesRead.{ReadsBetween, most_bytes}
use Rattle.chord_serve.proofs.Conversing.{Turn}
use Rattle.chord_serve.proofs.driving.take_turns.Given as goal

abbrev pub invariant-loop : goal.invariant-loop
invariant-loop g l =
    let d = g.P.Protocol in
    record {
      so : Turn d.hears d.says d.stops d.rests d.between (Ok tt) l.fn.protocol (g.R.Read.remaining l.fn.reader) (g.R.Read.remaining l.reader) (g.W.Write.contents l.fn.writer) (g.W.Write.contents l.writer) l.protocol;
      idle : d.idle l.protocol;
      sized : l.intake.size ≡ l.fn.size;
      reads : ReadsBetween l.counter (most_bytes l.fn.size * l.counter) (g.R.Read.remaining l.fn.reader) (g.R.Read.remaining l.reader);
    }
