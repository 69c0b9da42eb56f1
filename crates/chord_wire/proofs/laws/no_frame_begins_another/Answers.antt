use Rattle.chord_wire.proofs.StreamLaws.{alone}
use Rattle.chord_wire.proofs.RequestLaws.{requests}
use Rattle.chord_wire.proofs.AnswerLaws.{answers}
use Rattle.chord_wire.proofs.SessionLaws.{sessions, session_answers}
use Rattle.chord_wire.proofs.laws.no_frame_begins_another.Goals as goal

pub returns : goal.returns
returns c = record { requests = alone requests; answers = alone answers; sessions = alone sessions; session_answers = alone session_answers }
