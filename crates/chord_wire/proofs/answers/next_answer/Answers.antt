use Rattle.std.proofs.Common.{arith}
use Rattle.chord_wire.specs.ReadingReplies.{answer_in, next_answer}
use Rattle.chord_wire.proofs.NextLaws.{rest_is_end, found_next}
use Rattle.chord_wire.proofs.answers.next_answer.Goals as goal

pub overflow_sub-result : goal.overflow_sub-result
overflow_sub-result c = (rest_is_end 11 4098014 c.args.bytes.now (c.in-Some.body.now, c.in-Some.rest.now) (λ i. omega (arith, c.type_inv.bytes i)) (rw c.in-Some.is at c.in_ok-body.ensures)).0

pub returns-clause-exact : goal.returns-clause-exact
unfolding next_answer
returns-clause-exact c = found_next 11 4098014 answer_in c.args.bytes.now _ (c.in-Some.body.now, c.in-Some.rest.now) (rw c.in-Some.is at c.in_ok-body.ensures) c.in_ok-answer.ensures (λ i. omega (arith, c.type_inv.bytes i))
