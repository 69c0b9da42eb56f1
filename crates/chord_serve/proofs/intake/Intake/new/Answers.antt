use Rattle.std.proofs.Common.{arith}
use Rattle.chord_serve.proofs.BytesRead.{first_fits}
use Rattle.chord_serve.proofs.intake.Intake.new.Goals as goal

pub invariant_of-result : goal.invariant_of-result
invariant_of-result c =
    let filled = c.in_ok-vec.ensures.len in
    (omega arith, omega (arith, filled), omega (arith, filled, first_fits c.args.size))
