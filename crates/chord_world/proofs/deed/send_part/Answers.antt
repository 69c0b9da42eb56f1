use Rattle.std.proofs.Common.{Some, refl, ap}
use Rattle.std.specs.Prelude.{is_some}
use Rattle.chord_node.specs.declared.fault.ResendPartFault.TheVariants.{Memory}
use Rattle.chord_model.specs.declared.message.Message.TheVariants.{Part as PartMessage}
use Rattle.chord_world.specs.declared.deed.NodeDeed.TheVariants as deed
use Rattle.chord_world.specs.declared.outcome.Outcome.TheVariants as did
use Rattle.chord_world.specs.Deeds.{says}
use Rattle.chord_world.specs.Handing.{Resends, refusal_of_resend}
use Rattle.chord_world.proofs.Deeds.{refused_by, not_done}
use Rattle.chord_world.proofs.deed.send_part.Goals as goal

pub returns-in_err-part : goal.returns-in_err-part
returns-in_err-part g c history =
    not_done _ (deed.SendPart c.args.to c.args.number c.args.part) c.args.node.now
    c.args.node.now _ _ _ c.from_residual.result refl
    (refused_by (Resends c.args.to c.args.number c.args.part) refusal_of_resend
    c.in_err-part.field-0.0 c.args.node.now _
    (c.in_err-part.ensures.answer, refl) refl)
    refl refl c.from_residual.ensures.1

pub returns-in_err-message : goal.returns-in_err-message
returns-in_err-message g c history =
    not_done _ (deed.SendPart c.args.to c.args.number c.args.part) c.args.node.now
    c.args.node.now _ _ _ c.from_residual-in_err-message.result refl
    (refused_by (Resends c.args.to c.args.number c.args.part) refusal_of_resend Memory
    c.args.node.now _
    (ap is_some c.in_ok-part.ensures.answer, refl) refl)
    refl
    (λ i. record {
      sent = c.in_err-message.ensures.0 i;
      targets =
          c.in_err-message.ensures.1 i;
      history = history;
    }) c.from_residual-in_err-message.ensures.1

pub returns : goal.returns
returns g c history = record {
  effect = says (Some (PartMessage c.in_ok-part.part));
  does =
      record {
        part = c.in_ok-part.part;
        is = (c.in_ok-part.ensures.answer, refl);
        told = ap did.Message c.in_ok-message.ensures.0;
        sends = refl;
      };
  steps = c.in_ok-part.ensures.step;
  log_is = λ i. record {
    sent = c.in_ok-message.ensures.1 i;
    targets = c.in_ok-message.ensures.2 i;
    history = history;
  };
}
