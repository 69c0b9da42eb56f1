use Rattle.std.proofs.Common.{sym}
use Rattle.chord_serve.proofs.BytesRead.{took_some}
use Rattle.chord_serve.proofs.Conversing.{input_ends, input_stops, piece_lost, piece_answered}
use Rattle.chord_serve.proofs.driving.answer_piece.Goals as goal

pub returns-then-is_between-clause-answered : goal.returns-then-is_between-clause-answered
returns-then-is_between-clause-answered g c =
    let d = g.P.Protocol in
    input_ends d.hears d.says d.stops d.rests d.between c.args.protocol.now c.args.piece.now (g.W.Write.contents c.args.writer.now) c.requires.rests c.if-is_empty.ensures (sym c.if-is_between.ensures)

pub returns-then-is_empty-clause-answered : goal.returns-then-is_empty-clause-answered
returns-then-is_empty-clause-answered g c =
    let d = g.P.Protocol in
    input_stops d.hears d.says d.stops d.rests d.between c.args.protocol.now c.args.piece.now (g.W.Write.contents c.args.writer.now) c.requires.rests c.if-is_empty.ensures (sym c.if-is_between.ensures)

pub returns-in-Ok-clause-answered : goal.returns-in-Ok-clause-answered
returns-in-Ok-clause-answered g c =
    let d = g.P.Protocol in
    piece_answered d.hears d.says d.stops d.rests d.between c.answer_all.result c.args.protocol.now c.feed.new.self c.answer_all.new.protocol c.args.piece.now (g.W.Write.contents c.args.writer.now) (g.W.Write.contents c.answer_all.new.writer) c.answer_all.ensures.stop c.in-Ok.ensures.ok c.answer_all.ensures.all

pub returns-in-Err-clause-answered : goal.returns-in-Err-clause-answered
returns-in-Err-clause-answered g c =
    let d = g.P.Protocol in
    rw c.in-Err.ensures.err (piece_lost d.hears d.says d.stops d.rests d.between c.args.protocol.now c.args.piece.now (g.W.Write.contents c.args.writer.now) (took_some c.args.piece.now c.if-is_empty.ensures))
