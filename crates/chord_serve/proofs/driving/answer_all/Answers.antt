use Rattle.std.proofs.lemmas.Result.{err_from_is_err_and}
use Rattle.chord_serve.proofs.Conversing.{sent_nothing, sent_then, sent_ends}
use Rattle.chord_serve.proofs.driving.answer_all.Goals as goal

pub loop-init : goal.loop-init
loop-init g c =
    let d = g.P.Protocol in
    record {
      sent = sent_nothing d.hears d.says d.stops d.rests c.args.protocol.now (g.W.Write.contents c.args.writer.now);
      idle = c.requires;
    }

pub returns-in_err-send_part-clause-all : goal.returns-in_err-send_part-clause-all
returns-in_err-send_part-clause-all g c =
    let d = g.P.Protocol in
    let contents = g.W.Write.contents in
    let new = c.send_part.new in
    let p = err_from_is_err_and c.from_residual.result c.from_residual.ensures.1 in
    rw (p.1, p.2) (sent_ends d.hears d.says d.stops d.rests c.in_err-send_part.field-0.0 c.args.protocol.now c.loop.protocol new.protocol (contents c.args.writer.now) (contents c.loop.writer) (contents new.writer) c.loop.invariant.sent c.in_err-send_part.ensures.part)

pub loop-preserved : goal.loop-preserved
loop-preserved g c =
    let d = g.P.Protocol in
    let contents = g.W.Write.contents in
    let new = c.send_part.new in
    let part = c.in_ok-send_part.ensures.part in
    record {
      sent = sent_then d.hears d.says d.stops d.rests c.args.protocol.now c.loop.protocol new.protocol (contents c.args.writer.now) (contents c.loop.writer) (contents new.writer) c.loop.invariant.sent (part.0, part.1, part.3);
      idle = c.in_ok-send_part.ensures.idle;
    }

pub returns-clause-all : goal.returns-clause-all
returns-clause-all g c =
    let d = g.P.Protocol in
    let contents = g.W.Write.contents in
    let new = c.send_part.new in
    let part = c.in_ok-send_part.ensures.part in
    let all = sent_then d.hears d.says d.stops d.rests c.args.protocol.now c.loop.protocol new.protocol (contents c.args.writer.now) (contents c.loop.writer) (contents new.writer) c.loop.invariant.sent (part.0, part.1, part.3) in
    (all.0, record { talked = all.1; quiet = part.2 c.if-branch.false }, all.2)
