use Rattle.std.proofs.Common.{arith}
use Rattle.chord_wire.specs.SessionReading.{session_in, next_session}
use Rattle.chord_wire.proofs.NextLaws.{rest_is_end, found_next}
use Rattle.chord_wire.proofs.session_frames.next_session.Goals as goal

pub overflow_sub-result : goal.overflow_sub-result
overflow_sub-result c = (rest_is_end 12 4372 c.args.bytes.now (c.in-Some.body.now, c.in-Some.rest.now) (λ i. omega (arith, c.type_inv.bytes i)) (rw c.in-Some.is at c.in_ok-body.ensures)).0

pub returns-clause-exact : goal.returns-clause-exact
unfolding next_session
returns-clause-exact c = found_next 12 4372 session_in c.args.bytes.now _ (c.in-Some.body.now, c.in-Some.rest.now) (rw c.in-Some.is at c.in_ok-body.ensures) c.in_ok-frame.ensures (λ i. omega (arith, c.type_inv.bytes i))
