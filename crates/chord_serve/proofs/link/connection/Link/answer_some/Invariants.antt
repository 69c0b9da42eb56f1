use Rattle.std.proofs.Common.{◌≡◌}
use Rattle.chord_serve.specs.Runs.{Run}
use Rattle.chord_serve.proofs.link.connection.Link.answer_some.Given as goal

abbrev pub invariant-loop : goal.invariant-loop
invariant-loop g l =
    let p = g.P.Protocol in
    let old = l.fn.self.machine in
    let now = l.self.machine in
    record {
      log : now.first ≡ old.first;
      stream : now.stream ≡ old.stream;
      run : Run p.hears p.says p.stops p.rests p.idle p.begun old.protocol old.due l.counter now.protocol now.due;
      start : l.counter ≡ 0 → now ≡ old;
      mark : l.self.mark ≡ l.fn.self.mark;
    }
