use Rattle.std.proofs.Common.{rules, ◌≡◌, ◌≢◌, true, false, None, Some, sym, ap, ◌∙◌, subst, deque_capacity}
use Rattle.chord_map.specs.Map.{fits}
use Rattle.chord_caller.specs.declared.outcome.TakeOutcome.TheVariants.{Fresh, Known, Foreign}
use Rattle.chord_caller.specs.Client.{Client, client_of, state_at}
use Rattle.chord_caller.specs.Slots.{is_over, request_waiting_in}
use Rattle.chord_caller.proofs.Clients.{IsEnded, waits_above, settled_keeps, settled_from}
use Rattle.chord_caller.proofs.ClientSteps.{fresh_alike, known_alike, another_alike, absent_alike, unfit_alike, take_simulates}
use Rattle.chord_caller.proofs.client_core.ClientCore.take.Goals as goal

pub returns-then-told-self-clause-answer : goal.returns-then-told-self-clause-answer
returns-then-told-self-clause-answer c =
    let other : c.args.told.caller ≢ (c.args.self.now).number = search rules in
    another_alike c.args.told c.args.self.now other

pub returns-then-told-self-clause-step : goal.returns-then-told-self-clause-step
returns-then-told-self-clause-step c = take_simulates c.args.told c.args.self.now Foreign _ (returns-then-told-self-clause-answer c)

pub returns-then-is_number_over-clause-answer : goal.returns-then-is_number_over-clause-answer
returns-then-is_number_over-clause-answer c =
    let own : c.args.told.caller ≡ (c.args.self.now).number = search rules in
    let over : is_over (state_at c.args.told.number c.args.self.now) ≡ true = search rules in
    known_alike c.args.told c.args.self.now own over

pub returns-then-is_number_over-clause-step : goal.returns-then-is_number_over-clause-step
returns-then-is_number_over-clause-step c = take_simulates c.args.told c.args.self.now Known _ (returns-then-is_number_over-clause-answer c)

pub returns-in_default-clause-answer : goal.returns-in_default-clause-answer
returns-in_default-clause-answer c =
    let over : is_over (state_at c.args.told.number c.args.self.now) ≡ false = search rules in
    let none : request_waiting_in (state_at c.args.told.number c.args.self.now) ≡ None = search rules in
    absent_alike c.args.told c.args.self.now over none

pub returns-in_default-clause-step : goal.returns-in_default-clause-step
returns-in_default-clause-step c = take_simulates c.args.told c.args.self.now Foreign _ (returns-in_default-clause-answer c)

pub returns-then-not-fits-clause-answer : goal.returns-then-not-fits-clause-answer
returns-then-not-fits-clause-answer c =
    let waits : request_waiting_in (state_at c.args.told.number c.args.self.now) ≡ Some c.in-Some.request.now = search rules in
    let misfit : fits c.args.told.reply c.in-Some.request.now ≡ false = search rules in
    unfit_alike c.args.told c.args.self.now c.in-Some.request.now waits misfit

pub returns-then-not-fits-clause-step : goal.returns-then-not-fits-clause-step
returns-then-not-fits-clause-step c = take_simulates c.args.told c.args.self.now Foreign _ (returns-then-not-fits-clause-answer c)

pub settle_state-self-inside-requires-clause-above : goal.settle_state-self-inside-requires-clause-above
settle_state-self-inside-requires-clause-above c =
    let core = c.self.inside in
    (waits_above core.floor core.states.items c.args.told.number c.in-Some.request.now (sym c.in-Some.ensures)).0

pub settle_state-self-inside-requires-clause-within : goal.settle_state-self-inside-requires-clause-within
settle_state-self-inside-requires-clause-within c =
    let core = c.self.inside in
    (waits_above core.floor core.states.items c.args.told.number c.in-Some.request.now (sym c.in-Some.ensures)).1

pub invariant_of-self : goal.invariant_of-self
invariant_of-self c =
    let core = c.self.inside in
    let after = c.settle_state-self-inside in
    let settled = settled_from core.number core.window core.floor core.states.items c.args.told.number c.in-Some.request.now after.result after.new.states.items (sym c.in-Some.ensures) after.ensures.raised in
    settled_keeps (deque_capacity core.states) c.args.told c.in-Some.request.now (client_of core.number core.window core.floor core.states.items)
    (client_of core.number core.window after.result after.new.states.items) c.self.invariant c.if-told-self.false settled (deque_capacity after.new.states) after.ensures.capacity

pub returns-clause-answer : goal.returns-clause-answer
returns-clause-answer c =
    let core = c.self.inside in
    let after = c.settle_state-self-inside in
    let settled = settled_from core.number core.window core.floor core.states.items c.args.told.number c.in-Some.request.now after.result after.new.states.items (sym c.in-Some.ensures) after.ensures.raised in
    let fit : fits c.args.told.reply c.in-Some.request.now ≡ true = search rules in
    fresh_alike c.args.told c.in-Some.request.now c.args.self.now _ (c.if-told-self.false ∙ ap (λ (client : Client). client.number) c.self.view_is) fit
    (subst (λ (client : Client). IsEnded c.args.told.number c.in-Some.request.now client (client_of core.number core.window after.result after.new.states.items)) c.self.view_is settled)

pub returns-clause-step : goal.returns-clause-step
returns-clause-step c = take_simulates c.args.told c.args.self.now (Fresh (c.args.told).reply) _ (returns-clause-answer c)
