use Rattle.std.proofs.Common.{◌≡◌, ◌++◌, take}
use Rattle.chord_caller.specs.Unknown.{not_in}
use Rattle.chord_caller.proofs.note.copy_unknown.Given as goal

abbrev pub invariant-loop-done : goal.invariant-loop-done
invariant-loop-done l = l.news.items ≡ not_in (l.mine ++ l.told) (take l.done-index l.dones)
