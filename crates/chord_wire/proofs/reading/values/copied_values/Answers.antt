use Rattle.std.proofs.Common.{None, inl}
use Rattle.std.specs.Option.{option_copied}
use Rattle.std.proofs.lemmas.Result.{err_from_is_err_and}
use Rattle.chord_wire.specs.ReadingReplies.{rising_at}
use Rattle.chord_wire.proofs.ValueLaws.{goes_on, fails, is_done}
use Rattle.chord_wire.proofs.reading.values.copied_values.Goals as goal

pub returns-in_err-value : goal.returns-in_err-value
returns-in_err-value c =
    let p = err_from_is_err_and c.from_residual.result c.from_residual.ensures.1 in
    rw (p.1, p.2) (inl (fails c.in_err-value.field-0.0 c.loop.values c.args.number c.args.count c.loop.counter (option_copied c.loop.before) c.loop.rest.now (rising_at c.args.number None c.args.count c.args.bytes.now) c.loop-test.true c.in_err-value.ensures c.loop.invariant))

pub loop-preserved : goal.loop-preserved
loop-preserved c =
    rw (c.in_ok-push.ensures.ok, c.in_ok-from_slice.ensures.copy) (goes_on c.loop.values c.args.number c.args.count c.loop.counter (option_copied c.loop.before) c.loop.rest.now c.in_ok-value.value.now c.in_ok-value.after.now (rising_at c.args.number None c.args.count c.args.bytes.now) c.loop-test.true c.in_ok-value.ensures c.loop.invariant)

pub returns : goal.returns
returns c = is_done c.loop.values c.args.number c.args.count c.loop.counter (option_copied c.loop.before) c.loop.rest.now (rising_at c.args.number None c.args.count c.args.bytes.now) c.loop-test.false c.loop.invariant
