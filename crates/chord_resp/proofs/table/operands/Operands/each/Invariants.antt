use Rattle.std.proofs.Common.{◌≡◌, ◌+◌, length}
use Rattle.chord_resp.specs.Table.{each}
use Rattle.chord_resp.proofs.TableLaws.{with_front}
use Rattle.chord_resp.proofs.table.operands.Operands.each.Given as goal

abbrev pub invariant-loop-word : goal.invariant-loop-word
invariant-loop-word l = record {
  read : with_front l.values (each l.operand l.self) ≡ each l.fn.operand l.fn.self;
  count : length l.values + length l.self ≡ length l.fn.self;
}

abbrev pub decreases-loop-word : goal.decreases-loop-word
decreases-loop-word l = length l.self
