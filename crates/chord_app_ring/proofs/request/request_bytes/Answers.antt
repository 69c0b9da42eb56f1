use Rattle.chord_app_ring.proofs.request.request_bytes.Goals as goal

pub returns : goal.returns
returns c = rw (c.method.ensures, c.in_ok-path.ensures, c.body_size-size.ensures, c.in_ok-body.ensures) at c.write_request.ensures
