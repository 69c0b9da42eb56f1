use Rattle.std.proofs.Math.Logic.{∥∥₁_map}
use Rattle.chord_serve.proofs.Tales.{machine_written}
use Rattle.chord_serve.proofs.link.connection.Link.write_to.Goals as goal

pub invariant_of-self : goal.invariant_of-self
invariant_of-self g c =
    let p = g.P.Protocol in
    let s = g.S.Stream in
    let did = c.write.ensures in
    record { told = ∥∥₁_map c.args.self.now.told (λ t. machine_written p.hears p.says p.stops p.rests p.idle p.begun p.between s.left s.held c.args.self.now.machine c.write.new.self c.write.result t did.same did.other did.ok did.err) }
