use Rattle.chord_app_plan.proofs.Files.{taken_all}
use Rattle.chord_app_plan.proofs.file.read_bytes.Goals as goal

pub returns : goal.returns
returns g c =
    taken_all g.R.Read.remaining c.take.result c.args.reader 1048577 c.new-bytes.result.items c.read_to_end.new.buf.items c.take.ensures.limit c.take.ensures.inner c.new-bytes.ensures.items c.in_ok-read_to_end.ensures.bytes
