use Rattle.std.proofs.Common.{◌+◌, arith}
use Rattle.chord_tree_store.proofs.shelf.middle.Goals as goal

pub returns-clause-to : goal.returns-clause-to
returns-clause-to c = λ d within.
    let next = c.range_end-to.ensures.next d within in
    let low = c.requires.rises c.args.place (c.args.place + 1) c.index-shards-place.result (omega arith) within in
    let other = c.range_end-to.ensures.next c.index-shards-place.result within in
    omega (arith, next, low, other)
