use Rattle.std.proofs.Common.{◌≡◌, length}
use Rattle.chord_resp.specs.Table.{shutdown_of}
use Rattle.chord_resp.proofs.table.connection_command.shutdown_of.Given as goal

abbrev pub invariant-loop-word : goal.invariant-loop-word
invariant-loop-word l = shutdown_of l.operands ≡ shutdown_of l.initial.operands

abbrev pub decreases-loop-word : goal.decreases-loop-word
decreases-loop-word l = length l.operands
