use Rattle.std.proofs.Common.{rules, ◌≡◌, ◌+◌, ◌<◌, Some, subst, length, slice_get, sym, ap, ◌∙◌}
use Rattle.chord_caller.specs.Slots.{is_over}
use Rattle.chord_caller.specs.Answers.{PendingIs}
use Rattle.chord_caller.specs.Client.{Client}
use Rattle.chord_caller.proofs.Clients.{none_pending, first_pending}
use Rattle.chord_caller.proofs.client_core.ClientCore.pending.Goals as goal

pub returns-then-is_empty : goal.returns-then-is_empty
returns-then-is_empty c caller core =
    let none : length (c.args.self.now).states ≡ 0 = search rules in
    none_pending c.args.self.now caller core none

pub returns-else-is_empty : goal.returns-else-is_empty
returns-else-is_empty c caller core =
    let some : 0 < length (c.args.self.now).states = search rules in
    let floor : (c.args.self.now).floor + 1 ≡ c.self.inside.floor + 1 = search rules in
    subst (λ n. PendingIs caller (Some n)) floor
    (first_pending c.args.self.now caller core some (ap (λ (client : Client). is_over (slice_get client.states 0)) (sym c.self.view_is) ∙ c.self.invariant.next))
