use Rattle.std.proofs.Common.{[], ◌++◌, inl}
use Rattle.std.proofs.KnownBytes.{Appends-trans, Consumes-nil}
use Rattle.chord_serve.proofs.Conversing.{converses_further, written_conversed}
use Rattle.chord_serve.proofs.driving.drive.Goals as goal

pub returns-in-Err-clause-conversed : goal.returns-in-Err-clause-conversed
returns-in-Err-clause-conversed g c =
    let d = g.P.Protocol in
    let all = c.in-Err.ensures.all in
    ([], all.0, Consumes-nil (g.R.Read.remaining c.args.reader.now), inl (written_conversed d.hears d.says d.stops d.rests d.between c.in-Err.end c.args.protocol.now c.answer_all.new.protocol [] all.0 c.in-Err.ensures.stop all.1), all.2)

pub returns-clause-conversed : goal.returns-clause-conversed
returns-clause-conversed g c =
    let d = g.P.Protocol in
    let held = g.W.Write.contents in
    let all = c.in_default.ensures.all in
    let more = c.take_turns.ensures.conversed in (
      more.0,
      all.0 ++ more.1,
      more.2,
      converses_further d.hears d.says d.stops d.rests d.between c.take_turns.result c.args.protocol.now c.answer_all.new.protocol c.take_turns.new.protocol all.0 more.0 more.1 all.1.talked more.3,
      Appends-trans (held c.args.writer.now) (held c.answer_all.new.writer) (held c.take_turns.new.writer) all.0 more.1 all.2 more.4,
    )
