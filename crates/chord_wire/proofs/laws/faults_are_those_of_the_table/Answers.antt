use Rattle.chord_wire.proofs.FaultLaws as requests
use Rattle.chord_wire.proofs.AnswerFaults as answers
use Rattle.chord_wire.proofs.SessionFaultLaws as sessions
use Rattle.chord_wire.proofs.AnswerLaws as known
use Rattle.chord_wire.proofs.laws.faults_are_those_of_the_table.Goals as goal

pub returns-clause-requests : goal.returns-clause-requests
returns-clause-requests c bytes f fits = (requests.fault_is bytes f fits, requests.is_fault bytes f fits)

pub returns-clause-answers : goal.returns-clause-answers
returns-clause-answers c bytes f fits = (answers.fault_is bytes f fits, answers.is_fault known.answers bytes f fits)

pub returns-clause-sessions : goal.returns-clause-sessions
returns-clause-sessions c bytes f fits = (sessions.fault_is bytes f fits, sessions.is_fault bytes f fits)

pub returns-clause-session_answers : goal.returns-clause-session_answers
returns-clause-session_answers c bytes f fits = (sessions.answer_fault_is bytes f fits, sessions.is_answer_fault bytes f fits)
