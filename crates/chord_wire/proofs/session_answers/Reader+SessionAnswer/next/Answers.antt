use Rattle.chord_wire.proofs.NextLaws.{taken_is_found, spelled_is_taken}
use Rattle.chord_wire.proofs.SessionLaws.{session_answers}
use Rattle.chord_wire.proofs.session_answers.Reader+SessionAnswer.next.Goals as goal

pub returns-clause-found : goal.returns-clause-found
returns-clause-found c = taken_is_found session_answers c.take.result c.args.self.now c.take.new.self c.take.ensures.bytes c.take.ensures.exact

pub returns-clause-only : goal.returns-clause-only
returns-clause-only c = spelled_is_taken session_answers c.take.result c.args.self.now c.take.new.self c.take.ensures.exact
