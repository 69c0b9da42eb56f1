use Rattle.std.proofs.Common.{◌++◌, ◌∷◌, [], None}
use Rattle.std.specs.Option.{option_copied}
use Rattle.std.proofs.lemmas.Result.{err_from_is_err_and}
use Rattle.chord_wire.specs.ReadingReplies.{rising_at}
use Rattle.chord_wire.proofs.ValueLaws.{goes_on, fails, is_done}
use Rattle.chord_wire.proofs.reading.values.past_values.Goals as goal

pub returns-in_err-value : goal.returns-in_err-value
returns-in_err-value c =
    let p = err_from_is_err_and c.from_residual.result c.from_residual.ensures.1 in
    rw (p.1, p.2) (fails c.in_err-value.field-0.0 c.loop.invariant.0 c.args.number c.args.count c.loop.counter (option_copied c.loop.before) c.loop.rest.now (rising_at c.args.number None c.args.count c.args.bytes.now) c.loop-test.true c.in_err-value.ensures c.loop.invariant.1)

pub loop-preserved : goal.loop-preserved
loop-preserved c =
    (c.loop.invariant.0 ++ c.in_ok-value.value.now ∷ [], goes_on c.loop.invariant.0 c.args.number c.args.count c.loop.counter (option_copied c.loop.before) c.loop.rest.now c.in_ok-value.value.now c.in_ok-value.after.now (rising_at c.args.number None c.args.count c.args.bytes.now) c.loop-test.true c.in_ok-value.ensures c.loop.invariant.1)

pub returns : goal.returns
returns c =
    (c.loop.invariant.0, is_done c.loop.invariant.0 c.args.number c.args.count c.loop.counter (option_copied c.loop.before) c.loop.rest.now (rising_at c.args.number None c.args.count c.args.bytes.now) c.loop-test.false c.loop.invariant.1)
