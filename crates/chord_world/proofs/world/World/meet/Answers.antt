use Rattle.std.proofs.Common.{◌≡◌, Some, refl, arith, ◌∙◌, ap}
use Rattle.std.specs.Prelude.{slice_get}
use Rattle.chord_model.specs.declared.message.Message.TheVariants.{Note as NoteMessage}
use Rattle.chord_world.specs.View.{state_of}
use Rattle.chord_world.specs.State.{WorldState}
use Rattle.chord_world.specs.Calling.{Met}
use Rattle.chord_world.proofs.Answering.{read, sent_there, was_sent, callers_stay, world_after, step_after}
use Rattle.chord_world.proofs.Speaking.{caller_in, heard_is_world, met_step, met_is, meets_after, meets_not}
use Rattle.chord_world.proofs.Acting.{keeps_same, keeps_all}
use Rattle.chord_world.proofs.Handing.{advances_not}
use Rattle.chord_world.proofs.Keeping.{with_callers}
use Rattle.chord_world.proofs.world.World.meet.Goals as goal

pub meet_at-requires : goal.meet_at-requires
meet_at-requires g c = caller_in c.args.caller _ c.args.self.now _ c.self.view_is c.self.invariant c.in_ok-is_caller.ensures.1.1

pub returns-in_err-meet_at-clause-answer : goal.returns-in_err-meet_at-clause-answer
returns-in_err-meet_at-clause-answer g c =
    let view : WorldState = state_of c.self.inside in
    let sent : slice_get view.world.sent c.args.message ≡ Some (NoteMessage c.in-Note.note) = read c.self.inside.sent.items c.self.inside.sent.items c.args.message c.index.result.now _ refl (omega arith) c.index.ensures c.in-Note.is in
    meets_not c.args.caller c.args.message view c.args.self.now c.in-Note.note c.meet_at.new.callers.items c.from_residual-in_err-meet_at.result c.self.view_is c.in_ok-is_caller.ensures
    (sent_there view c.args.self.now c.args.message (NoteMessage c.in-Note.note) c.self.view_is sent) c.in_err-meet_at.ensures c.from_residual-in_err-meet_at.ensures.1

pub invariant_of-self-2 : goal.invariant_of-self-2
invariant_of-self-2 g c =
    let view : WorldState = state_of c.self.inside in
    let sent : slice_get view.world.sent c.args.message ≡ Some (NoteMessage c.in-Note.note) = read c.self.inside.sent.items c.self.inside.sent.items c.args.message c.index.result.now _ refl (omega arith) c.index.ensures c.in-Note.is in
    let met : Met c.args.caller c.in-Note.note view.world.callers c.meet_at.new.callers.items = c.in_ok-meet_at.ensures in
    world_after view _ _ (met_is c.args.caller c.in-Note.note view c.meet_at.new.callers.items c.self.invariant met)
    (heard_is_world c.args.caller met.core _ view c.self.invariant met.here refl
    (met_step c.args.caller c.in-Note.note met.core view c.self.invariant met.here (was_sent view.world.sent c.args.message (NoteMessage c.in-Note.note) sent)))

pub returns : goal.returns
returns g c =
    let view : WorldState = state_of c.self.inside in
    let sent : slice_get view.world.sent c.args.message ≡ Some (NoteMessage c.in-Note.note) = read c.self.inside.sent.items c.self.inside.sent.items c.args.message c.index.result.now _ refl (omega arith) c.index.ensures c.in-Note.is in
    let met : Met c.args.caller c.in-Note.note view.world.callers c.meet_at.new.callers.items = c.in_ok-meet_at.ensures in record {
      answer = meets_after c.args.caller c.args.message view c.args.self.now c.in-Note.note c.meet_at.new.callers.items c.self.view_is c.self.invariant sent met;
      step = step_after view c.args.self.now _ _ c.self.view_is (met_is c.args.caller c.in-Note.note view c.meet_at.new.callers.items c.self.invariant met)
          (met_step c.args.caller c.in-Note.note met.core view c.self.invariant met.here (was_sent view.world.sent c.args.message (NoteMessage c.in-Note.note) sent));
      ring = keeps_same _ c.args.self.now _ c.self.view_is refl refl;
    }

pub returns-in_err-is_caller-clause-step : goal.returns-in_err-is_caller-clause-step
returns-in_err-is_caller-clause-step g c = advances_not c.args.self.now c.args.self.now _ c.from_residual.result c.from_residual.ensures.1 refl

pub returns-in_err-is_caller-clause-ring : goal.returns-in_err-is_caller-clause-ring
returns-in_err-is_caller-clause-ring g c = keeps_all c.args.self.now

pub returns-then-message-len-clause-step : goal.returns-then-message-len-clause-step
returns-then-message-len-clause-step g c = refl

pub returns-then-message-len-clause-ring : goal.returns-then-message-len-clause-ring
returns-then-message-len-clause-ring g c = keeps_all c.args.self.now

pub returns-in_default-clause-step : goal.returns-in_default-clause-step
returns-in_default-clause-step g c = refl

pub returns-in_default-clause-ring : goal.returns-in_default-clause-ring
returns-in_default-clause-ring g c = keeps_all c.args.self.now

pub returns-in_err-meet_at-clause-step : goal.returns-in_err-meet_at-clause-step
returns-in_err-meet_at-clause-step g c =
    advances_not c.args.self.now _ _ c.from_residual-in_err-meet_at.result c.from_residual-in_err-meet_at.ensures.1 (ap (λ cs. with_callers cs (state_of c.self.inside)) c.in_err-meet_at.ensures ∙ c.self.view_is)

pub returns-in_err-meet_at-clause-ring : goal.returns-in_err-meet_at-clause-ring
returns-in_err-meet_at-clause-ring g c = keeps_same (state_of c.self.inside) c.args.self.now _ c.self.view_is refl refl

pub invariant_of-self : goal.invariant_of-self
invariant_of-self g c = callers_stay (state_of c.self.inside) _ c.in_err-meet_at.ensures c.self.invariant
