use Rattle.std.proofs.Math.Logic.{∥∥₁_map}
use Rattle.chord_app_operator.proofs.Tales.{machine_read}
use Rattle.chord_app_operator.proofs.link.connection.OperatorLink.read_from.Goals as goal

pub invariant_of-self : goal.invariant_of-self
invariant_of-self g c =
    let did = c.read.ensures in
    record { told = ∥∥₁_map c.args.self.now.told (λ t. machine_read g.O.Operator.answers g.R.Read.remaining g.W.Write.contents c.args.self.now.machine c.read.new.self c.read.result t did.same did.writer did.config did.ok did.err) }
