use Rattle.std.proofs.Common.{◌≡◌, take}
use Rattle.chord_store.specs.Inside.{pairs_inside}
use Rattle.chord_store.proofs.lists.copy_span.Given as goal

abbrev pub invariant-loop-pair : goal.invariant-loop-pair
invariant-loop-pair l = l.copies.items ≡ pairs_inside l.span (take l.pair-index l.pairs)
