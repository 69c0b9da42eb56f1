use Rattle.std.proofs.Common.{Ok, None, ◌*◌}
use Rattle.chord_serve.specs.BytesRead.{ReadsBetween}
use Rattle.chord_serve.specs.Calls.{ReadsMore}
use Rattle.chord_serve.proofs.calls.await_answer.Given as goal

abbrev pub invariant-loop : goal.invariant-loop
invariant-loop g l = record {
  so : ReadsMore (Ok None) l.fn.answers (g.R.Read.remaining l.fn.reader) (g.R.Read.remaining l.reader) l.answers;
  reads : ReadsBetween l.counter (4096 * l.counter) (g.R.Read.remaining l.fn.reader) (g.R.Read.remaining l.reader);
}
