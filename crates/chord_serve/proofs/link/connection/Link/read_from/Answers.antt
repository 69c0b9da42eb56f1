use Rattle.std.proofs.Math.Logic.{∥∥₁_map}
use Rattle.chord_serve.proofs.Tales.{machine_read}
use Rattle.chord_serve.proofs.link.connection.Link.read_from.Goals as goal

pub invariant_of-self : goal.invariant_of-self
invariant_of-self g c =
    let p = g.P.Protocol in
    let s = g.S.Stream in
    let did = c.read_from.ensures in
    record { told = ∥∥₁_map c.args.self.now.told (λ t. machine_read p.hears p.says p.stops p.rests p.idle p.begun p.between s.left s.held c.args.self.now.machine c.read_from.new.self c.read_from.result t (c.wants_read.ensures.0 c.if-not-wants_read.false).0 did.same did.other did.ok did.err) }
