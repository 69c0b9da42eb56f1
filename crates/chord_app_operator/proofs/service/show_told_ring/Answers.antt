use Rattle.chord_app_operator.proofs.service.show_told_ring.Goals as goal

pub returns-in-Ok : goal.returns-in-Ok
returns-in-Ok c = rw (c.in-Ok.is) c.show_ring.ensures
