use Rattle.chord_wire.proofs.SessionLaws.{request_alone, request_in_session}
use Rattle.chord_wire.proofs.laws.requests_are_read_in_a_session.Goals as goal

pub returns : goal.returns
returns c bytes behind r fits = (request_alone bytes behind r fits, request_in_session bytes behind r fits)
