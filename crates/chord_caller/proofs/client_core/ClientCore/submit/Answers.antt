use Rattle.std.proofs.Common.{rules, ◌≡◌, None, ◌+◌, length, slice_get, false, ◌++◌, [], ◌∷◌, sym, ap, ◌∙◌, subst, deque_capacity}
use Rattle.chord_caller.specs.declared.request_state.RequestState.TheVariants.{Waiting}
use Rattle.chord_caller.specs.Slots.{is_over}
use Rattle.chord_caller.specs.Answers.{RefusalIs}
use Rattle.chord_caller.specs.Caller.{Caller}
use Rattle.chord_caller.specs.Client.{Client, client_of, IsClient, IsCoreOf}
use Rattle.chord_caller.proofs.ClientSteps.{submitted_alike, submitted_keeps, submit_simulates, submitted_waits}
use Rattle.chord_caller.proofs.client_core.ClientCore.submit.Goals as goal

pub invariant_of-self : goal.invariant_of-self
invariant_of-self c =
    let core = c.self.inside in
    let old : Client = client_of core.number core.window core.floor core.states.items in
    let allowed : (caller : Caller) → IsCoreOf old caller → RefusalIs c.args.request caller None = search rules in
    let items : c.push_back_reserved.new.self.items ≡ core.states.items ++ Waiting c.args.request ∷ [] = search rules in
    let room : deque_capacity c.push_back_reserved.new.self ≡ deque_capacity core.states = search rules in
    subst (λ states. IsClient (deque_capacity c.push_back_reserved.new.self) (client_of core.number core.window core.floor states)) (sym items)
    (submitted_keeps (deque_capacity core.states) c.args.request old c.self.invariant allowed (deque_capacity c.push_back_reserved.new.self) room)

pub returns-clause-waits : goal.returns-clause-waits
returns-clause-waits c caller core =
    let inside = c.self.inside in
    let old : Client = client_of inside.number inside.window inside.floor inside.states.items in
    let items : c.push_back_reserved.new.self.items ≡ inside.states.items ++ Waiting c.args.request ∷ [] = search rules in
    let number : inside.floor + c.len.result ≡ inside.floor + length inside.states.items + 1 = search rules in
    submitted_waits c.args.request old caller (inside.floor + c.len.result) number
    (subst (λ states. IsCoreOf (client_of inside.number inside.window inside.floor states) caller) items core)

pub returns-clause-answer : goal.returns-clause-answer
returns-clause-answer c =
    let next : is_over (slice_get (c.args.self.now).states 0) ≡ false = ap (λ (client : Client). is_over (slice_get client.states 0)) (sym c.self.view_is) ∙ c.self.invariant.next in
    let allowed : (caller : Caller) → IsCoreOf c.args.self.now caller → RefusalIs c.args.request caller None = search rules in
    submitted_alike c.args.request c.args.self.now _ _ next allowed (search rules) (search rules)

pub returns-clause-step : goal.returns-clause-step
returns-clause-step c = submit_simulates c.args.request c.args.self.now _ _ (returns-clause-answer c)
