use Rattle.std.proofs.Common.{rules, Err}
use Rattle.chord_serve.specs.Resuming.{OpenIs, resumes}
use Rattle.chord_serve.proofs.Resuming.{opens_behind}
use Rattle.chord_serve.proofs.wire_client.WireClient.resume.Goals as goal

pub returns-in-Err-clause-resumes : goal.returns-in-Err-clause-resumes
returns-in-Err-clause-resumes g c =
    let left = g.R.Read.remaining in
    let held = g.W.Write.contents in
    let it : OpenIs (Err c.in-Err.fault) (resumes c.args.token) c.args.self.now (left c.args.reader.now) (left c.open.new.reader) (held c.args.writer.now) (held c.open.new.writer) =
    opens_behind (Err c.in-Err.fault) (resumes c.args.token) c.args.self.now c.forget.new.self (left c.args.reader.now) (left c.open.new.reader) (held c.args.writer.now) (held c.open.new.writer) c.forget.ensures c.in-Err.ensures.opens in
    (search rules, search rules, it)
