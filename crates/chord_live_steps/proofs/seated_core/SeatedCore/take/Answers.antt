use Rattle.chord_live_steps.proofs.Waiting.{ended_by}
use Rattle.chord_live_steps.proofs.seated_core.SeatedCore.take.Goals as goal

pub returns-clause-ended : goal.returns-clause-ended
returns-clause-ended g c =
    ended_by g.C.AskingCore.ends g.met.C.AskingCore.numbered c.args.number c.receive.result c.args.envelope c.args.self.now c.receive.new.self
    c.receive.ensures.messages c.receive.ensures.change c.receive.ensures.full
