use Rattle.std.proofs.Common.{◌≡◌, true, sym, subst, deque_capacity}
use Rattle.chord_caller.specs.Answers.{is_pending}
use Rattle.chord_caller.specs.Caller.{Caller, with_given_up}
use Rattle.chord_caller.specs.Client.{Client, client_of, IsCoreOf}
use Rattle.chord_caller.proofs.Clients.{pending_waits, waits_above, settled_from, given_up_keeps}
use Rattle.chord_caller.proofs.ClientSteps.{given_up_alike, give_up_simulates}
use Rattle.chord_caller.proofs.client_core.ClientCore.give_up.Goals as goal

pub settle_state-self-inside-requires-clause-above : goal.settle_state-self-inside-requires-clause-above
settle_state-self-inside-requires-clause-above c =
    let core = c.self.inside in
    let old : Client = client_of core.number core.window core.floor core.states.items in
    let pending : (caller : Caller) → IsCoreOf old caller → is_pending c.args.number caller ≡ true =
    subst (λ (client : Client). (caller : Caller) → IsCoreOf client caller → is_pending c.args.number caller ≡ true) (sym c.self.view_is) c.requires in
    let waits = pending_waits (deque_capacity core.states) old c.args.number c.self.invariant pending in
    (waits_above core.floor core.states.items c.args.number waits.0 waits.1).0

pub settle_state-self-inside-requires-clause-within : goal.settle_state-self-inside-requires-clause-within
settle_state-self-inside-requires-clause-within c =
    let core = c.self.inside in
    let old : Client = client_of core.number core.window core.floor core.states.items in
    let pending : (caller : Caller) → IsCoreOf old caller → is_pending c.args.number caller ≡ true =
    subst (λ (client : Client). (caller : Caller) → IsCoreOf client caller → is_pending c.args.number caller ≡ true) (sym c.self.view_is) c.requires in
    let waits = pending_waits (deque_capacity core.states) old c.args.number c.self.invariant pending in
    (waits_above core.floor core.states.items c.args.number waits.0 waits.1).1

pub invariant_of-self : goal.invariant_of-self
invariant_of-self c =
    let core = c.self.inside in
    let after = c.settle_state-self-inside in
    let old : Client = client_of core.number core.window core.floor core.states.items in
    let pending : (caller : Caller) → IsCoreOf old caller → is_pending c.args.number caller ≡ true =
    subst (λ (client : Client). (caller : Caller) → IsCoreOf client caller → is_pending c.args.number caller ≡ true) (sym c.self.view_is) c.requires in
    let waits = pending_waits (deque_capacity core.states) old c.args.number c.self.invariant pending in
    let ended = settled_from core.number core.window core.floor core.states.items c.args.number waits.0 after.result after.new.states.items waits.1 after.ensures.raised in
    given_up_keeps (deque_capacity core.states) c.args.number waits.0 old (client_of core.number core.window after.result after.new.states.items) c.self.invariant ended
    (deque_capacity after.new.states) after.ensures.capacity

pub returns-clause-answer : goal.returns-clause-answer
returns-clause-answer c =
    let core = c.self.inside in
    let after = c.settle_state-self-inside in
    let old : Client = client_of core.number core.window core.floor core.states.items in
    let new : Client = client_of core.number core.window after.result after.new.states.items in
    let pending : (caller : Caller) → IsCoreOf old caller → is_pending c.args.number caller ≡ true =
    subst (λ (client : Client). (caller : Caller) → IsCoreOf client caller → is_pending c.args.number caller ≡ true) (sym c.self.view_is) c.requires in
    let waits = pending_waits (deque_capacity core.states) old c.args.number c.self.invariant pending in
    let ended = settled_from core.number core.window core.floor core.states.items c.args.number waits.0 after.result after.new.states.items waits.1 after.ensures.raised in
    subst (λ (client : Client). (caller : Caller) → IsCoreOf client caller → IsCoreOf new (with_given_up c.args.number caller)) c.self.view_is
    (given_up_alike c.args.number waits.0 old new ended)

pub returns-clause-step : goal.returns-clause-step
returns-clause-step c = give_up_simulates c.args.number c.args.self.now _ c.requires (returns-clause-answer c)
