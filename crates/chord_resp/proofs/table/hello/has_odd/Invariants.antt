use Rattle.std.proofs.Common.{◌≡◌, length}
use Rattle.chord_resp.specs.Table.{has_odd}
use Rattle.chord_resp.proofs.table.hello.has_odd.Given as goal

abbrev pub invariant-loop-rest : goal.invariant-loop-rest
invariant-loop-rest l = has_odd l.rest ≡ has_odd l.bytes

abbrev pub decreases-loop-rest : goal.decreases-loop-rest
decreases-loop-rest l = length l.rest
