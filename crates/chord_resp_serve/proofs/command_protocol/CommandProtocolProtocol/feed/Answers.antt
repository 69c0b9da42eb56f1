use Rattle.std.proofs.Common.{refl}
use Rattle.chord_resp_serve.proofs.Steps.{fed}
use Rattle.chord_resp_serve.proofs.command_protocol.CommandProtocolProtocol.feed.Goals as goal

pub returns-in-Ok-clause-ok : goal.returns-in-Ok-clause-ok
returns-in-Ok-clause-ok g c = (fed c.args.self.now.commands c.feed.new.self c.args.piece.now c.in-Ok.ensures.state c.in-Ok.ensures.ok, refl, refl, refl)
