use Rattle.std.proofs.Math.Logic.{∥∥₁_map}
use Rattle.chord_serve.proofs.Tales.{step_tries}
use Rattle.chord_serve.proofs.link.connection.Link.stop_waiting.Goals as goal

pub invariant_of-self : goal.invariant_of-self
invariant_of-self g c =
    let p = g.P.Protocol in
    let s = g.S.Stream in
    let did = c.step.ensures in
    record { told = ∥∥₁_map c.args.self.now.told (λ t. step_tries p.hears p.says p.stops p.rests p.idle p.begun p.between s.left s.held c.args.self.now.machine c.step.new.self did.same did.step.0 did.step.3 did.step.1 did.step.5 (c.waits.ensures.0 c.if-waits.true) t) }
