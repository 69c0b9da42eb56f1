use Rattle.std.proofs.Common.{◌≡◌, ◌≤◌, take, length}
use Rattle.chord_store.specs.Inside.{pairs_inside}
use Rattle.chord_store.proofs.lists.count_inside.Given as goal

abbrev pub invariant-loop-counted : goal.invariant-loop-counted
invariant-loop-counted l = record {
  counted : l.count ≡ length (pairs_inside l.span (take l.counted-index l.pairs));
  few : l.count ≤ l.counted-index;
}
