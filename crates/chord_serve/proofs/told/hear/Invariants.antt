use Rattle.std.proofs.Common.{Ok, None, [], ◌*◌}
use Rattle.chord_serve.specs.BytesRead.{ReadsBetween}
use Rattle.chord_serve.specs.Told.{LooksOn}
use Rattle.chord_serve.proofs.told.hear.Given as goal

abbrev pub invariant-loop : goal.invariant-loop
invariant-loop g l = record {
  so : LooksOn (Ok None) [] (g.R.Read.remaining l.fn.reader) (g.R.Read.remaining l.reader) l.frames;
  reads : ReadsBetween l.counter (4096 * l.counter) (g.R.Read.remaining l.fn.reader) (g.R.Read.remaining l.reader);
}
