use Rattle.std.proofs.Common.{◌≤◌, vec_len}
use Rattle.chord_app_loop.proofs.loops.Loops.open.Given as goal

abbrev pub invariant-loop : goal.invariant-loop
invariant-loop g l = vec_len l.others ≤ l.counter
