use Rattle.chord_wire.proofs.NextLaws.{taken_is_found, spelled_is_taken}
use Rattle.chord_wire.proofs.SessionLaws.{sessions, as_alone, begun}
use Rattle.chord_wire.proofs.session_frames.Reader+SessionFrame.next.Goals as goal

pub returns-clause-found : goal.returns-clause-found
returns-clause-found c = taken_is_found sessions c.take.result c.args.self.now c.take.new.self c.take.ensures.bytes c.take.ensures.exact

pub returns-clause-only : goal.returns-clause-only
returns-clause-only c = spelled_is_taken sessions c.take.result c.args.self.now c.take.new.self c.take.ensures.exact

pub returns-clause-alone : goal.returns-clause-alone
returns-clause-alone c = as_alone c.take.result c.args.self.now c.take.new.self c.take.ensures.bytes c.take.ensures.exact

pub returns-clause-begun : goal.returns-clause-begun
returns-clause-begun c = begun c.take.result c.args.self.now c.take.new.self c.take.ensures.bytes c.take.ensures.exact
