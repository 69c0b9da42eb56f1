use Rattle.std.proofs.Common.{[], inl, ap, arith, ◌*◌, Err, Ok, ◌∙◌}
use Rattle.chord_serve.specs.BytesRead.{most_bytes}
use Rattle.chord_serve.specs.declared.served.Served.{Served}
use Rattle.std.proofs.KnownBytes.{Appends-nil, Consumes-nil}
use Rattle.chord_serve.proofs.Conversing.{no_turn, turn_then, nothing_read}
use Rattle.chord_serve.proofs.BytesRead.{reads_none, reads_more, reads_last, reads_done}
use Rattle.chord_serve.proofs.driving.take_turns.Goals as goal

pub loop-init : goal.loop-init
loop-init g c =
    let d = g.P.Protocol in
    record {
      so = no_turn d.hears d.says d.stops d.rests d.between c.args.protocol.now (g.R.Read.remaining c.args.reader.now) (g.W.Write.contents c.args.writer.now) c.requires.rests;
      idle = c.requires.idle;
      reads = reads_none (most_bytes c.args.size * 0) (g.R.Read.remaining c.args.reader.now);
      sized = ap (λ intake. intake.size) c.in-Ok.ensures;
    }

pub loop-preserved : goal.loop-preserved
loop-preserved g c =
    let d = g.P.Protocol in
    let left = g.R.Read.remaining in
    let held = g.W.Write.contents in
    let new = c.take_turn.new in
    record {
      so = turn_then d.hears d.says d.stops d.rests d.between (Ok tt) c.args.protocol.now c.loop.protocol new.protocol (left c.args.reader.now) (left c.loop.reader) (left new.reader) (held c.args.writer.now) (held c.loop.writer) (held new.writer) c.loop.invariant.so c.in_default-take_turn.ensures.turn;
      idle = c.in_default-take_turn.ensures.idle;
      sized = c.in_default-take_turn.ensures.size ∙ c.loop.invariant.sized;
      reads = reads_more c.args.size c.loop.counter (left c.args.reader.now) (left c.loop.reader) (left new.reader) c.loop.invariant.reads (rw c.loop.invariant.sized at c.in_default-take_turn.ensures.progress);
    }

pub returns-in-Err-clause-conversed : goal.returns-in-Err-clause-conversed
returns-in-Err-clause-conversed g c =
    let d = g.P.Protocol in
    let left = g.R.Read.remaining in
    let held = g.W.Write.contents in
    let new = c.take_turn.new in
    let turn = turn_then d.hears d.says d.stops d.rests d.between (Err c.in-Err.end) c.args.protocol.now c.loop.protocol new.protocol (left c.args.reader.now) (left c.loop.reader) (left new.reader) (held c.args.writer.now) (held c.loop.writer) (held new.writer) c.loop.invariant.so c.in-Err.ensures.turn in
    (turn.0, turn.1, turn.2, inl turn.3, turn.4)

pub returns-in-Err-clause-turns : goal.returns-in-Err-clause-turns
returns-in-Err-clause-turns g c =
    let left = g.R.Read.remaining in
    let new = c.take_turn.new in (
      reads_last c.args.size c.loop.counter c.args.turns (left c.args.reader.now) (left c.loop.reader) (left new.reader) c.loop-test.true c.loop.invariant.reads (rw c.loop.invariant.sized at c.in-Err.ensures.bytes),
      λ e. absurd (c.in-Err.ensures.not_spent (ap (λ (s : Served). Err s) e)),
    )

pub returns-clause-turns : goal.returns-clause-turns
returns-clause-turns g c =
    let left = g.R.Read.remaining in (
      reads_done c.args.size c.loop.counter 0 c.args.turns (left c.args.reader.now) (left c.loop.reader) (omega arith) (omega arith) c.loop.invariant.reads,
      λ e. reads_done c.args.size c.loop.counter c.args.turns c.args.turns (left c.args.reader.now) (left c.loop.reader) (omega (arith, c.loop-test.false)) (omega arith) c.loop.invariant.reads,
    )

pub returns-in_default-clause-conversed : goal.returns-in_default-clause-conversed
returns-in_default-clause-conversed g c =
    let d = g.P.Protocol in
    ([], [], Consumes-nil (g.R.Read.remaining c.args.reader.now), nothing_read d.hears d.says d.stops d.rests d.between c.args.protocol.now c.requires.rests, Appends-nil (g.W.Write.contents c.args.writer.now))
