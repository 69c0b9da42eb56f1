use Rattle.std.proofs.Common.{◌-◌, length, drop, arith}
use Rattle.std.proofs.lemmas.List.{length-take, length-drop}
use Rattle.chord_serve.proofs.Prefixes.{grows, prefix_of, stays}
use Rattle.chord_serve.proofs.write_bytes.write_bytes.Goals as goal

pub returns-in-Ok-eq0 : goal.returns-in-Ok-eq0
returns-in-Ok-eq0 g c =
    let bytes = c.args.bytes.now in
    prefix_of _ _ bytes _ (grows (g.W.Write.contents c.args.writer.now) (g.W.Write.contents c.loop-at.writer) (g.W.Write.contents c.write.new.self) bytes c.loop-at.at c.in-Ok-eq0.field-0 c.loop-at.invariant.1 c.in-Ok-eq0.ensures.bytes)

pub loop-at-preserved : goal.loop-at-preserved
loop-at-preserved g c =
    let bytes = c.args.bytes.now in
    let least = c.in-Ok.ensures.bound in (
      omega (arith, least, length-take (length bytes - c.loop-at.at) (drop c.loop-at.at bytes), length-drop c.loop-at.at bytes),
      grows (g.W.Write.contents c.args.writer.now) (g.W.Write.contents c.loop-at.writer) (g.W.Write.contents c.write.new.self) bytes c.loop-at.at c.in-Ok.count c.loop-at.invariant.1 c.in-Ok.ensures.bytes,
    )

pub returns-in-Err : goal.returns-in-Err
returns-in-Err g c =
    stays (g.W.Write.contents c.args.writer.now) (g.W.Write.contents c.loop-at.writer) (g.W.Write.contents c.write.new.self) c.args.bytes.now c.loop-at.at c.loop-at.invariant.1 c.in-Err.ensures.bytes
