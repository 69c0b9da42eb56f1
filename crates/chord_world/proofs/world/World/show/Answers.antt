use Rattle.std.proofs.Common.{◌≡◌, None, Some, length, sym, subst, arith, refl}
use Rattle.std.specs.Prelude.{slice_get}
use Rattle.chord_caller.specs.Caller.Letter.{NoteLetter}
use Rattle.chord_world.specs.View.{state_of}
use Rattle.chord_world.specs.State.{WorldState, IsKnown, messages_of, targets_of}
use Rattle.chord_model.specs.declared.message.Message.TheVariants.{Note as NoteMessage}
use Rattle.chord_world.proofs.Answering.{world_after, step_after}
use Rattle.chord_world.proofs.Posting.{got, caller_stands}
use Rattle.chord_world.proofs.Speaking.{caller_in, note_call, show_sends, sent_now, sent_step, sent_is_world}
use Rattle.chord_world.proofs.Acting.{keeps_same, keeps_all}
use Rattle.chord_world.proofs.Handing.{advances_not}
use Rattle.chord_world.proofs.world.World.show.Goals as goal

pub index-requires : goal.index-requires
index-requires g c =
    let within = caller_in c.args.caller _ c.args.self.now _ c.self.view_is c.self.invariant c.in_ok-is_caller.ensures.1.1 in
    omega arith

pub invariant_of-self-2 : goal.invariant_of-self-2
invariant_of-self-2 g c =
    let view : WorldState = state_of c.self.inside in
    let within = caller_in c.args.caller view c.args.self.now _ c.self.view_is c.self.invariant c.in_ok-is_caller.ensures.1.1 in
    let here : slice_get view.world.callers c.args.caller ≡ Some c.index.result.now = got view.world.callers c.args.caller c.index.result.now within c.index.ensures in
    world_after view _ _ (sent_now _ None view c.in_ok-message.message (messages_of c.send.new.sent.items) (targets_of c.send.new.sent.items) c.in_ok-message.ensures)
    (sent_is_world c.args.caller None c.index.result.now (NoteLetter c.in_ok-note.note) view c.self.invariant here c.in_ok-note.ensures.step
    (subst (λ n. IsKnown (length view.world.nodes) (length view.world.callers) (NoteMessage n)) (sym c.in_ok-note.ensures.note) (note_call c.args.caller c.index.result.now view c.self.invariant here)) tt)

pub returns : goal.returns
returns g c =
    let view : WorldState = state_of c.self.inside in
    let within = caller_in c.args.caller view c.args.self.now _ c.self.view_is c.self.invariant c.in_ok-is_caller.ensures.1.1 in
    let here : slice_get view.world.callers c.args.caller ≡ Some c.index.result.now = got view.world.callers c.args.caller c.index.result.now within c.index.ensures in record {
      answer = show_sends c.args.caller c.in_ok-message.message view c.args.self.now c.index.result.now c.in_ok-note.note (messages_of c.send.new.sent.items) (targets_of c.send.new.sent.items) c.self.view_is
          (caller_stands c.args.caller view c.args.self.now c.index.result.now c.self.view_is c.self.invariant here) c.in_ok-note.ensures.note c.in_ok-message.ensures;
      step = step_after view c.args.self.now _ _ c.self.view_is (sent_now _ None view c.in_ok-message.message (messages_of c.send.new.sent.items) (targets_of c.send.new.sent.items) c.in_ok-message.ensures)
          (sent_step c.args.caller None c.index.result.now (NoteLetter c.in_ok-note.note) view c.self.invariant here c.in_ok-note.ensures.step);
      ring = keeps_same _ c.args.self.now _ c.self.view_is refl refl;
    }

pub returns-in_err-is_caller-clause-step : goal.returns-in_err-is_caller-clause-step
returns-in_err-is_caller-clause-step g c = advances_not c.args.self.now c.args.self.now _ c.from_residual.result c.from_residual.ensures.1 refl

pub returns-in_err-is_caller-clause-ring : goal.returns-in_err-is_caller-clause-ring
returns-in_err-is_caller-clause-ring g c = keeps_all c.args.self.now
