use Rattle.chord_serve.proofs.Rows.{one_session}
use Rattle.chord_serve.proofs.laws.connections_are_one_session.Goals as goal

pub returns : goal.returns
returns g c first inputs outputs last row = one_session g.A.Asker.answers first inputs outputs last row
