use Rattle.std.proofs.Common.{◌≡◌, length}
use Rattle.chord_resp.specs.Table.{AnOption, hello_from}
use Rattle.chord_resp.proofs.table.hello.hello_with.Given as goal

abbrev pub invariant-loop-option : goal.invariant-loop-option
invariant-loop-option l = hello_from AnOption l.operands ≡ hello_from AnOption l.initial.operands

abbrev pub decreases-loop-option : goal.decreases-loop-option
decreases-loop-option l = length l.operands
