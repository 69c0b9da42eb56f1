use Rattle.std.proofs.Common.{rules, ◌≡◌, ◌∙◌, is_some}
use Rattle.chord_caller.specs.Client.{state_at}
use Rattle.chord_caller.specs.Slots.{request_waiting_in}
use Rattle.chord_caller.proofs.Clients.{pending_is}
use Rattle.chord_caller.proofs.client_core.ClientCore.is_pending.Goals as goal

pub returns : goal.returns
returns c caller core =
    let answer : c.is_some.result ≡ is_some (request_waiting_in (state_at c.args.number c.args.self.now)) = search rules in
    answer ∙ pending_is c.args.self.now caller core c.args.number
