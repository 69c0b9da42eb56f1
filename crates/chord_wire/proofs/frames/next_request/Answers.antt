use Rattle.std.proofs.Common.{arith}
use Rattle.chord_wire.specs.View.{wire_request}
use Rattle.chord_wire.proofs.NextLaws.{rest_is_end}
use Rattle.chord_wire.proofs.RequestLaws.{next_is}
use Rattle.chord_wire.proofs.frames.next_request.Goals as goal

pub overflow_sub-result : goal.overflow_sub-result
overflow_sub-result c =
    let body = rw c.in-Some.is at c.in_ok-body.ensures in
    (rest_is_end 12 4372 c.args.bytes.now (c.in-Some.body.now, c.in-Some.rest.now) (λ i. omega (arith, c.type_inv.bytes i)) body).0

pub returns-clause-exact : goal.returns-clause-exact
returns-clause-exact c =
    let body = rw c.in-Some.is at c.in_ok-body.ensures in
    let end = rest_is_end 12 4372 c.args.bytes.now (c.in-Some.body.now, c.in-Some.rest.now) (λ i. omega (arith, c.type_inv.bytes i)) body in
    let next = next_is c.args.bytes.now (c.in-Some.body.now, c.in-Some.rest.now) (wire_request c.in_ok-view.view) body c.in_ok-view.ensures in
    (rw (c.in_ok-to_request.ensures, end.1) next, omega arith)
