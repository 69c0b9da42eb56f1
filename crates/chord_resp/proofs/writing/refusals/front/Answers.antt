use Rattle.std.proofs.Common.{arith, sym}
use Rattle.std.proofs.lemmas.List.{length-take, take_all}
use Rattle.chord_resp.proofs.writing.refusals.front.Goals as goal

pub returns-then-bytes-le-SHOWN_BYTES : goal.returns-then-bytes-le-SHOWN_BYTES
returns-then-bytes-le-SHOWN_BYTES c =
    sym (take_all 128 c.args.bytes.now (omega (arith, c.if-bytes-le-SHOWN_BYTES.true)))

pub slice_bounds-result-end : goal.slice_bounds-result-end
slice_bounds-result-end c = omega (arith, length-take 128 c.args.bytes.now, c.if-bytes-le-SHOWN_BYTES.false)
