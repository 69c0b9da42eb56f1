use Rattle.std.proofs.Common.{ap}
use Rattle.http_server.specs.declared.state.Config.{Config}
use Rattle.chord_app_operator.specs.Told.{ServesBy}
use Rattle.chord_app_operator.proofs.Tales.{told_new}
use Rattle.chord_app_operator.proofs.link.connection.OperatorLink.new.Goals as goal

pub invariant_of-result : goal.invariant_of-result
invariant_of-result g c =
    record { told = ∣ told_new (ServesBy g.O.Operator.answers) 8192 g.R.Read.remaining g.W.Write.contents _ c.args.stream c.new-connection.result c.args.service (rw c.new-none.ensures at c.and-first.ensures) (ap (λ (config : Config). config.max_body_len) c.new-connection.ensures.config) c.new-connection.ensures.history ∣₁ }
