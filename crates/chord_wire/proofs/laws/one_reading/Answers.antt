use Rattle.chord_wire.proofs.RequestLaws.{requests}
use Rattle.chord_wire.proofs.AnswerLaws.{answers}
use Rattle.chord_wire.proofs.SessionLaws.{sessions, session_answers}
use Rattle.chord_wire.proofs.StreamLaws.{one, counted}
use Rattle.chord_wire.proofs.laws.one_reading.Goals as goal

pub returns-clause-ended : goal.returns-clause-ended
returns-clause-ended c bytes rs ss rest rest' p pn q qn = one requests rs ss bytes rest rest' (p.each, p.parts) pn (q.each, q.parts) qn

pub returns-clause-same_count : goal.returns-clause-same_count
returns-clause-same_count c bytes rs ss rest rest' p q e = counted requests rs ss bytes rest rest' (p.each, p.parts) (q.each, q.parts) e

pub returns-clause-answers_ended : goal.returns-clause-answers_ended
returns-clause-answers_ended c bytes xs ys rest rest' p pn q qn = one answers xs ys bytes rest rest' (p.each, p.parts) pn (q.each, q.parts) qn

pub returns-clause-answers_same_count : goal.returns-clause-answers_same_count
returns-clause-answers_same_count c bytes xs ys rest rest' p q e = counted answers xs ys bytes rest rest' (p.each, p.parts) (q.each, q.parts) e

pub returns-clause-sessions_same_count : goal.returns-clause-sessions_same_count
returns-clause-sessions_same_count c bytes xs ys rest rest' p q e = counted sessions xs ys bytes rest rest' (p.each, p.parts) (q.each, q.parts) e

pub returns-clause-session_answers_same_count : goal.returns-clause-session_answers_same_count
returns-clause-session_answers_same_count c bytes xs ys rest rest' p q e = counted session_answers xs ys bytes rest rest' (p.each, p.parts) (q.each, q.parts) e
