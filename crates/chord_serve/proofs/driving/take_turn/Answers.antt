use Rattle.std.proofs.Common.{subst, sym}
use Rattle.std.specs.Io.KnownBytes.{Consumes}
use Rattle.chord_serve.proofs.Conversing.{read_fails, turn_of}
use Rattle.chord_serve.proofs.driving.take_turn.Goals as goal

pub returns-in-Err-clause-turn : goal.returns-in-Err-clause-turn
returns-in-Err-clause-turn g c =
    let d = g.P.Protocol in
    read_fails d.hears d.says d.stops d.rests d.between c.args.protocol.now (g.R.Read.remaining c.args.reader.now) (g.R.Read.remaining c.read_from.new.reader) (g.W.Write.contents c.args.writer.now) c.requires.rests c.in-Err.ensures.err

pub returns-in-Ok-clause-turn : goal.returns-in-Ok-clause-turn
returns-in-Ok-clause-turn g c =
    let d = g.P.Protocol in
    let left = g.R.Read.remaining c.args.reader.now in
    let left' = g.R.Read.remaining c.read_from.new.reader in
    let piece = c.bytes.result.now in
    let taken = subst (λ bytes. Consumes left left' bytes) (sym c.bytes.ensures) c.in-Ok.ensures.ok in
    turn_of d.hears d.says d.stops d.rests d.between c.answer_piece.result c.args.protocol.now c.answer_piece.new.protocol piece left left' (g.W.Write.contents c.args.writer.now) (g.W.Write.contents c.answer_piece.new.writer) taken c.answer_piece.ensures.answered
