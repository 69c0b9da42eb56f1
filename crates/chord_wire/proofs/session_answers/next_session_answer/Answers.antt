use Rattle.std.proofs.Common.{arith}
use Rattle.chord_wire.specs.SessionReading.{session_answer_in, next_session_answer}
use Rattle.chord_wire.proofs.NextLaws.{rest_is_end, found_next}
use Rattle.chord_wire.proofs.session_answers.next_session_answer.Goals as goal

pub overflow_sub-result : goal.overflow_sub-result
overflow_sub-result c = (rest_is_end 10 4098014 c.args.bytes.now (c.in-Some.body.now, c.in-Some.rest.now) (λ i. omega (arith, c.type_inv.bytes i)) (rw c.in-Some.is at c.in_ok-body.ensures)).0

pub returns-clause-exact : goal.returns-clause-exact
unfolding next_session_answer
returns-clause-exact c = found_next 10 4098014 session_answer_in c.args.bytes.now _ (c.in-Some.body.now, c.in-Some.rest.now) (rw c.in-Some.is at c.in_ok-body.ensures) c.in_ok-answer.ensures (λ i. omega (arith, c.type_inv.bytes i))
