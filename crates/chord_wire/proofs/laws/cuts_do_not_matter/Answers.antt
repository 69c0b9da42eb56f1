use Rattle.chord_wire.proofs.NextLaws.{stays}
use Rattle.chord_wire.proofs.RequestLaws.{requests}
use Rattle.chord_wire.proofs.AnswerLaws.{answers}
use Rattle.chord_wire.proofs.SessionLaws.{sessions, session_answers}
use Rattle.chord_wire.proofs.laws.cuts_do_not_matter.Goals as goal

pub returns : goal.returns
returns c = record { requests = stays requests; answers = stays answers; sessions = stays sessions; session_answers = stays session_answers }
