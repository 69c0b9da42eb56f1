use Rattle.std.proofs.Common.{◌≡◌, ◌++◌, length, take}
use Rattle.std.specs.List.{flat_map}
use Rattle.chord_resp.specs.Answers.{count, integer}
use Rattle.chord_resp.proofs.writing.arrays.try_integers.Given as goal

abbrev pub invariant-loop-item : goal.invariant-loop-item
invariant-loop-item l = l.out.items ≡ l.fn.out.items ++ (count (length l.items) ++ flat_map integer (take l.item-index l.items))
