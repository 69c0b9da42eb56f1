use Rattle.chord_serve.proofs.Conversing.{part_sent, part_unsent}
use Rattle.chord_serve.proofs.driving.send_part.Goals as goal

pub returns-in-Ok-clause-part : goal.returns-in-Ok-clause-part
returns-in-Ok-clause-part g c =
    let d = g.P.Protocol in
    part_sent d.hears d.says d.stops d.rests c.answer_part-result.result c.args.protocol.now c.answer_part-result.new.protocol c.answer_part-result.new.due (g.W.Write.contents c.args.writer.now) (g.W.Write.contents c.write_to.new.writer) c.answer_part-result.ensures.stop c.answer_part-result.ensures.part c.in-Ok.ensures

pub returns-in-Err-clause-part : goal.returns-in-Err-clause-part
returns-in-Err-clause-part g c =
    let d = g.P.Protocol in
    part_unsent d.hears d.says d.stops d.rests c.answer_part-result.result c.args.protocol.now c.answer_part-result.new.protocol c.answer_part-result.new.due (g.W.Write.contents c.args.writer.now) (g.W.Write.contents c.write_to.new.writer) c.answer_part-result.ensures.part c.in-Err.ensures
