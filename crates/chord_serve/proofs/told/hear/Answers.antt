use Rattle.std.proofs.Common.{◌≡◌, refl, List, [], Ok, None, ℕ}
use Rattle.std.proofs.KnownBytes.{Consumes-nil}
use Rattle.chord_wire.specs.SessionReading.{next_session_answer}
use Rattle.chord_wire.specs.Reading.{body_at}
use Rattle.chord_serve.proofs.BytesRead.{reads_none}
use Rattle.chord_serve.proofs.told.hear.Goals as goal

nothing : (bytes : List ℕ) → bytes ≡ [] → next_session_answer bytes ≡ Ok None
unfolding next_session_answer body_at
nothing bytes e = rw e refl

pub loop-init : goal.loop-init
loop-init g c = record {
  so = ([], Consumes-nil (g.R.Read.remaining c.args.reader.now), c.new-frames.ensures, nothing c.new-frames.result c.new-frames.ensures);
  reads = reads_none 0 (g.R.Read.remaining c.args.reader.now);
}
