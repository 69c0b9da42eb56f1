use Rattle.std.proofs.Math.Logic.{∥∥₁_map}
use Rattle.chord_app_operator.proofs.Tales.{machine_written}
use Rattle.chord_app_operator.proofs.link.connection.OperatorLink.write_to.Goals as goal

pub invariant_of-self : goal.invariant_of-self
invariant_of-self g c =
    let did = c.write.ensures in
    record { told = ∥∥₁_map c.args.self.now.told (λ t. machine_written g.O.Operator.answers g.R.Read.remaining g.W.Write.contents c.args.self.now.machine c.write.new.self c.write.result t did.same did.reader did.config did.ok did.err) }
