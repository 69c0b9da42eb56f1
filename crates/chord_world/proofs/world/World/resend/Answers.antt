use Rattle.std.proofs.Common.{◌≡◌, Some, arith, refl}
use Rattle.std.specs.Prelude.{slice_get}
use Rattle.chord_caller.specs.Caller.Letter.{AskLetter}
use Rattle.chord_world.specs.View.{state_of}
use Rattle.chord_world.specs.State.{WorldState, messages_of, targets_of}
use Rattle.chord_world.proofs.Answering.{world_after, step_after}
use Rattle.chord_world.proofs.Posting.{got}
use Rattle.chord_world.proofs.Speaking.{caller_in, there_now, again_refused, again_memory, again_sends, again_step, again_call, sent_now, sent_step, sent_is_world}
use Rattle.chord_world.proofs.Acting.{keeps_same}
use Rattle.chord_world.proofs.world.World.resend.Goals as goal

pub index-requires : goal.index-requires
index-requires g c =
    let within = caller_in c.args.caller _ c.args.self.now _ c.self.view_is c.self.invariant c.in_ok-are_there.ensures.1.1 in
    omega arith

pub returns-in_err-ask-clause-answer : goal.returns-in_err-ask-clause-answer
returns-in_err-ask-clause-answer g c =
    let view : WorldState = state_of c.self.inside in
    let within = caller_in c.args.caller view c.args.self.now _ c.self.view_is c.self.invariant c.in_ok-are_there.ensures.1.1 in
    let here : slice_get view.world.callers c.args.caller ≡ Some c.index.result.now = got view.world.callers c.args.caller c.index.result.now within c.index.ensures in
    again_refused c.args.caller c.args.via c.args.number c.args.self.now c.index.result.now c.in_err-ask.field-0.0 c.from_residual-in_err-ask.result
    (there_now c.args.caller c.args.via view c.args.self.now _ c.index.result.now c.self.view_is c.self.invariant c.in_ok-are_there.ensures.1 here) c.in_err-ask.ensures c.from_residual-in_err-ask.ensures.1

pub returns-in_err-message-clause-answer : goal.returns-in_err-message-clause-answer
returns-in_err-message-clause-answer g c =
    let view : WorldState = state_of c.self.inside in
    let within = caller_in c.args.caller view c.args.self.now _ c.self.view_is c.self.invariant c.in_ok-are_there.ensures.1.1 in
    let here : slice_get view.world.callers c.args.caller ≡ Some c.index.result.now = got view.world.callers c.args.caller c.index.result.now within c.index.ensures in
    again_memory c.args.caller c.args.via c.args.number view c.args.self.now c.index.result.now c.in_ok-ask.ask _ (messages_of c.send.new.sent.items) (targets_of c.send.new.sent.items) c.from_residual-in_err-message.result c.self.view_is
    (there_now c.args.caller c.args.via view c.args.self.now _ c.index.result.now c.self.view_is c.self.invariant c.in_ok-are_there.ensures.1 here) c.in_ok-ask.ensures c.in_err-message.ensures c.from_residual-in_err-message.ensures.1

pub invariant_of-self-2 : goal.invariant_of-self-2
invariant_of-self-2 g c =
    let view : WorldState = state_of c.self.inside in
    let within = caller_in c.args.caller view c.args.self.now _ c.self.view_is c.self.invariant c.in_ok-are_there.ensures.1.1 in
    let here : slice_get view.world.callers c.args.caller ≡ Some c.index.result.now = got view.world.callers c.args.caller c.index.result.now within c.index.ensures in
    world_after view _ _ (sent_now _ (Some c.args.via) view c.in_ok-message.message (messages_of c.send.new.sent.items) (targets_of c.send.new.sent.items) c.in_ok-message.ensures)
    (sent_is_world c.args.caller (Some c.args.via) c.index.result.now (AskLetter c.in_ok-ask.ask) view c.self.invariant here (again_step c.args.number c.index.result.now c.in_ok-ask.ask c.in_ok-ask.ensures)
    (again_call c.args.number c.args.caller c.index.result.now c.in_ok-ask.ask view c.self.invariant here c.in_ok-ask.ensures) tt)

pub returns : goal.returns
returns g c =
    let view : WorldState = state_of c.self.inside in
    let within = caller_in c.args.caller view c.args.self.now _ c.self.view_is c.self.invariant c.in_ok-are_there.ensures.1.1 in
    let here : slice_get view.world.callers c.args.caller ≡ Some c.index.result.now = got view.world.callers c.args.caller c.index.result.now within c.index.ensures in record {
      answer = again_sends c.args.caller c.args.via c.in_ok-message.message c.args.number view c.args.self.now c.index.result.now c.in_ok-ask.ask (messages_of c.send.new.sent.items) (targets_of c.send.new.sent.items) c.self.view_is
          (there_now c.args.caller c.args.via view c.args.self.now _ c.index.result.now c.self.view_is c.self.invariant c.in_ok-are_there.ensures.1 here) c.in_ok-ask.ensures c.in_ok-message.ensures;
      step = step_after view c.args.self.now _ _ c.self.view_is (sent_now _ (Some c.args.via) view c.in_ok-message.message (messages_of c.send.new.sent.items) (targets_of c.send.new.sent.items) c.in_ok-message.ensures)
          (sent_step c.args.caller (Some c.args.via) c.index.result.now (AskLetter c.in_ok-ask.ask) view c.self.invariant here (again_step c.args.number c.index.result.now c.in_ok-ask.ask c.in_ok-ask.ensures));
      ring = keeps_same _ c.args.self.now _ c.self.view_is refl refl;
    }
