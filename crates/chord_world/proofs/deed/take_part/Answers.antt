use Rattle.std.proofs.Common.{◌≡◌, length, refl, sym, ◌∙◌, ap, subst, arith}
use Rattle.std.specs.Prelude.{slice_get, None, Some, Ok}
use Rattle.chord_handover.specs.Handover.{Part}
use Rattle.chord_model.specs.declared.message.Message.TheVariants.{Part as PartMessage}
use Rattle.chord_model.specs.Node.{NodeStep}
use Rattle.chord_node.specs.declared.handovers.part_answer.PartAnswer.TheVariants.{Clash}
use Rattle.chord_node.specs.Received.{PartIs, sent_for}
use Rattle.chord_world.specs.declared.deed.NodeDeed.TheVariants as deed
use Rattle.chord_world.specs.Deeds.{log_of, says}
use Rattle.chord_world.specs.State.{messages_of, targets_of}
use Rattle.chord_world.specs.Taking.{outcome_of_given}
use Rattle.chord_world.proofs.Answering.{place_within, read_is}
use Rattle.chord_world.proofs.Deeds.{not_done}
use Rattle.chord_world.proofs.Taking.{read_part, answered, answered_to}
use Rattle.chord_world.proofs.deed.take_part.Goals as goal

pub returns-in_err-reserve : goal.returns-in_err-reserve
returns-in_err-reserve g c history =
    not_done _ (deed.TakePart c.args.number) c.args.node.now c.args.node.now _ _ _
    c.from_residual.result refl refl
    refl (ap (λ xs. log_of xs history) c.reserve.ensures.items) c.from_residual.ensures.1

pub index-requires : goal.index-requires
index-requires g c =
    let within = place_within c.reserve.new.self.items c.args.sent.now.items c.args.number _
    c.reserve.ensures.items c.requires.came in
    omega arith

pub unreachable-requires : goal.unreachable-requires
unreachable-requires g c =
    let within = place_within c.reserve.new.self.items c.args.sent.now.items c.args.number _
    c.reserve.ensures.items c.requires.came in
    c.in_default.not-Part c.requires.part
    (read_is c.reserve.new.self.items c.args.sent.now.items c.args.number c.index.result.now _
    c.reserve.ensures.items within c.index.ensures c.requires.came)

pub on_give-requires : goal.on_give-requires
on_give-requires g c =
    let same = read_part c.reserve.new.self.items c.args.sent.now.items c.reserve.ensures.items
    c.requires c.index.ensures c.in-Part.is in
    record { to = ap (λ (p : Part). p.to) (sym same) ∙ c.requires.to }

pub returns-in_err-given : goal.returns-in_err-given
returns-in_err-given g c history =
    not_done _ (deed.TakePart c.args.number) c.args.node.now c.on_give.new.self _ _ _
    c.from_residual-in_err-given.result refl refl
    c.in_err-given.ensures.answer.2 (ap (λ xs. log_of xs history) c.reserve.ensures.items)
    c.from_residual-in_err-given.ensures.1

pub confirm-requires-clause-fits : goal.confirm-requires-clause-fits
confirm-requires-clause-fits g c clash =
    let same = read_part c.reserve.new.self.items c.args.sent.now.items c.reserve.ensures.items
    c.requires c.index.ensures c.in-Part.is in
    c.requires.fits c.on_give.new.self
    (subst (λ p. PartIs p c.args.node.now (Ok Clash) c.on_give.new.self) (sym same)
    (subst (λ a. PartIs c.in-Part.part c.args.node.now
    (Ok a) c.on_give.new.self) clash c.in_ok-given.ensures.answer))

pub returns : goal.returns
returns g c history =
    let part = c.in-Part.part in
    let given = c.in_ok-given.given in
    let room = c.reserve.ensures.items in
    let same = read_part c.reserve.new.self.items c.args.sent.now.items room c.requires
    c.index.ensures c.in-Part.is in
    let came : slice_get (messages_of c.args.sent.now.items) c.args.number ≡ Some
    (PartMessage part) =
    c.requires.came ∙ ap (λ p. Some (PartMessage p)) same in
    record {
      effect = says (sent_for part given);
      does =
          record {
            part = part;
            given = given;
            came = came;
            is = c.in_ok-given.ensures.answer;
            told = ap (λ xs. outcome_of_given given (length (messages_of xs))) (sym room)
                ∙ c.confirm.ensures.outcome;
            sends = refl;
          };
      steps = subst (λ t. NodeStep c.args.node.now t c.on_give.new.self
          (sent_for part given) None) (sym came) c.in_ok-given.ensures.step;
      log_is = λ i. record {
        sent = answered part given _ c.of-ticket.ensures
            (ap messages_of room) c.confirm.ensures.sent i;
        targets = answered_to part given _ c.of-ticket.ensures
            (ap targets_of room) c.confirm.ensures.targets i;
        history = history;
      };
    }
