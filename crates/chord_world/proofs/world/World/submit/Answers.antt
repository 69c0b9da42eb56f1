use Rattle.std.proofs.Common.{◌≡◌, ◌∙◌, length, ap, refl}
use Rattle.std.proofs.lemmas.Option.{slice_get_within}
use Rattle.chord_world.specs.View.{state_of}
use Rattle.chord_world.specs.State.{WorldState, messages_of, targets_of}
use Rattle.chord_world.proofs.Posting.{can_submit, node_there, posted_is, posted_is_world, posted_sends, posted_step}
use Rattle.chord_world.proofs.Acting.{keeps_same, keeps_all}
use Rattle.chord_world.proofs.Handing.{advances_not}
use Rattle.chord_world.proofs.world.World.submit.Goals as goal

pub submit_at-requires-clause-place : goal.submit_at-requires-clause-place
submit_at-requires-clause-place g c =
    let view : WorldState = state_of c.self.inside in
    let can = can_submit c.args.caller c.args.via c.args.request.now view c.args.self.now c.self.view_is c.self.invariant c.in_ok-may_submit.ensures in
    slice_get_within c.self.inside.callers.items c.args.caller can.core can.here

pub submit_at-requires-clause-can : goal.submit_at-requires-clause-can
submit_at-requires-clause-can g c =
    let view : WorldState = state_of c.self.inside in
    can_submit c.args.caller c.args.via c.args.request.now view c.args.self.now c.self.view_is c.self.invariant c.in_ok-may_submit.ensures

pub invariant_of-self-2 : goal.invariant_of-self-2
invariant_of-self-2 g c =
    let view : WorldState = state_of c.self.inside in
    let node = node_there c.args.caller c.args.via c.args.request.now view c.args.self.now c.self.view_is c.in_ok-may_submit.ensures in
    let is = posted_is c.args.caller c.args.via c.args.request.now view c.submit_at.new.callers.items (messages_of c.push_message-number.new.sent.items) _ (targets_of c.push_message-number.new.sent.items) _ c.in-Ok.ask c.self.invariant
    c.in-Ok.ensures c.push_message-number.ensures.sent (ap messages_of c.reserve.ensures.items) c.push_message-number.ensures.targets (ap targets_of c.reserve.ensures.items) in
    posted_is_world c.args.caller c.args.via c.args.request.now view c.submit_at.new.callers.items c.in-Ok.ask _ c.self.invariant node c.in-Ok.ensures is

pub returns : goal.returns
returns g c =
    let view : WorldState = state_of c.self.inside in
    let node = node_there c.args.caller c.args.via c.args.request.now view c.args.self.now c.self.view_is c.in_ok-may_submit.ensures in
    let is = posted_is c.args.caller c.args.via c.args.request.now view c.submit_at.new.callers.items (messages_of c.push_message-number.new.sent.items) _ (targets_of c.push_message-number.new.sent.items) _ c.in-Ok.ask c.self.invariant
    c.in-Ok.ensures c.push_message-number.ensures.sent (ap messages_of c.reserve.ensures.items) c.push_message-number.ensures.targets (ap targets_of c.reserve.ensures.items) in
    let number : c.push_message-number.result ≡ length view.world.sent = c.push_message-number.ensures.number ∙ ap (λ xs. length (messages_of xs)) c.reserve.ensures.items in record {
      answer = posted_sends c.args.caller c.args.via c.push_message-number.result c.args.request.now view c.args.self.now c.submit_at.new.callers.items c.in-Ok.ask _ c.self.view_is c.self.invariant node c.in-Ok.ensures number is;
      step = posted_step c.args.caller c.args.via c.args.request.now view c.args.self.now c.submit_at.new.callers.items c.in-Ok.ask _ c.self.view_is c.self.invariant node c.in-Ok.ensures is;
      ring = keeps_same _ c.args.self.now _ c.self.view_is refl refl;
    }

pub returns-in_err-may_submit-clause-step : goal.returns-in_err-may_submit-clause-step
returns-in_err-may_submit-clause-step g c = advances_not c.args.self.now c.args.self.now _ c.from_residual.result c.from_residual.ensures.1 refl

pub returns-in_err-may_submit-clause-ring : goal.returns-in_err-may_submit-clause-ring
returns-in_err-may_submit-clause-ring g c = keeps_all c.args.self.now

pub returns-then-is_err-clause-ring : goal.returns-then-is_err-clause-ring
returns-then-is_err-clause-ring g c = keeps_same (state_of c.self.inside) c.args.self.now _ c.self.view_is refl refl

pub returns-in_default-clause-ring : goal.returns-in_default-clause-ring
returns-in_default-clause-ring g c = keeps_same (state_of c.self.inside) c.args.self.now _ c.self.view_is refl refl
