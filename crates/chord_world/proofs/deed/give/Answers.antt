use Rattle.std.proofs.Common.{Some, length, ◌++◌, ◌∷◌, [], refl, ◌∙◌, ap}
use Rattle.chord_node.specs.declared.fault.GiveFault.TheVariants.{Memory}
use Rattle.chord_node.specs.Moves.{GiveIs}
use Rattle.chord_model.specs.declared.message.Message.TheVariants.{Part as PartMessage}
use Rattle.chord_world.specs.declared.deed.NodeDeed.TheVariants as deed
use Rattle.chord_world.specs.declared.outcome.Outcome.TheVariants as did
use Rattle.chord_world.specs.Deeds.{log_of, says}
use Rattle.chord_world.specs.Handing.{refusal_of_give}
use Rattle.chord_world.specs.State.{messages_of, targets_of}
use Rattle.chord_world.proofs.Deeds.{refused_by, not_done}
use Rattle.chord_world.proofs.Handing.{kept_give}
use Rattle.chord_world.proofs.deed.give.Goals as goal

pub returns-in_err-may_give : goal.returns-in_err-may_give
returns-in_err-may_give g c history =
    not_done _ (deed.Give c.args.place c.args.to) c.args.node.now c.args.node.now _ _ _
    c.from_residual.result refl
    (refused_by (GiveIs c.args.place c.args.to) refusal_of_give c.in_err-may_give.field-0.0
    c.args.node.now _
    c.in_err-may_give.ensures refl)
    refl refl c.from_residual.ensures.1

pub returns-in_err-reserve : goal.returns-in_err-reserve
returns-in_err-reserve g c history =
    not_done _ (deed.Give c.args.place c.args.to) c.args.node.now c.args.node.now _ _ _
    c.from_residual-in_err-reserve.result refl
    (refused_by (GiveIs c.args.place c.args.to) refusal_of_give Memory c.args.node.now _
    c.in_ok-may_give.ensures refl)
    refl (ap (λ xs. log_of xs history) c.reserve.ensures.items)
    c.from_residual-in_err-reserve.ensures.1

pub returns-in_err-part : goal.returns-in_err-part
returns-in_err-part g c history =
    let fault = c.in_err-part.field-0.0 in
    let stays = kept_give c.args.place c.args.to fault c.args.node.now c.give.new.self
    c.in_err-part.ensures.answer in
    not_done _ (deed.Give c.args.place c.args.to) c.args.node.now c.give.new.self _ _ _
    c.from_residual-in_err-part.result refl
    (refused_by (GiveIs c.args.place c.args.to) refusal_of_give fault c.args.node.now
    c.give.new.self
    c.in_err-part.ensures.answer stays)
    stays (ap (λ xs. log_of xs history) c.reserve.ensures.items)
    c.from_residual-in_err-part.ensures.1

pub returns : goal.returns
returns g c history =
    let room = c.reserve.ensures.items in
    let pushed = c.push_message-message.ensures in
    let sent = pushed.sent ∙ ap (λ xs. messages_of xs ++ PartMessage c.in_ok-part.part ∷ []) room in
    let targets = pushed.targets ∙ ap (λ xs. targets_of xs ++ _ ∷ []) room in
    record {
      effect = says (Some (PartMessage c.in_ok-part.part));
      does =
          record {
            part = c.in_ok-part.part;
            is = c.in_ok-part.ensures.answer;
            told = ap did.Message (pushed.number ∙ ap (λ xs. length (messages_of xs)) room);
            sends = refl;
          };
      steps = c.in_ok-part.ensures.step;
      log_is = λ i. record { sent = sent i; targets = targets i; history = history };
    }
