use Rattle.std.proofs.Math.Logic.{∥∥₁_map}
use Rattle.chord_app_operator.proofs.Tales.{machine_answered}
use Rattle.chord_app_operator.proofs.link.connection.OperatorLink.advance.Goals as goal

pub invariant_of-self : goal.invariant_of-self
invariant_of-self g c =
    let did = c.answer.ensures in
    record { told = ∥∥₁_map c.args.self.now.told (λ t. machine_answered g.O.Operator.answers g.R.Read.remaining g.W.Write.contents c.args.self.now.machine c.answer.new.self t did.same did.config did.calls did.quiet) }
