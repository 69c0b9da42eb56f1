use Rattle.std.proofs.Common.{length, refl, sym, ◌∙◌, ap, subst, arith}
use Rattle.chord_model.specs.Node.{NodeStep}
use Rattle.chord_model.specs.World.{with_one}
use Rattle.chord_node.specs.Asked.{ask_done, sent_by}
use Rattle.chord_world.specs.declared.deed.NodeDeed.TheVariants as deed
use Rattle.chord_world.specs.Deeds.{log_of}
use Rattle.chord_world.specs.Delivering.{message_by}
use Rattle.chord_world.specs.State.{messages_of, targets_of}
use Rattle.chord_world.specs.Taking.{outcome_of, target_of}
use Rattle.chord_world.proofs.Answering.{place_within, read, read_is, message_is}
use Rattle.chord_world.proofs.Deeds.{not_done}
use Rattle.chord_world.proofs.deed.answer.Goals as goal

pub returns-in_err-reserve : goal.returns-in_err-reserve
returns-in_err-reserve g c =
    not_done _ (deed.Answer c.args.number) c.args.node.now c.args.node.now _ _ _
    c.from_residual.result refl refl
    refl (ap (λ xs. log_of xs c.args.history.now.calls) c.reserve.ensures.items)
    c.from_residual.ensures.1

pub index-requires : goal.index-requires
index-requires g c =
    let within = place_within c.reserve.new.self.items c.args.sent.now.items c.args.number _
    c.reserve.ensures.items
    c.requires.1 in
    omega arith

pub unreachable-requires : goal.unreachable-requires
unreachable-requires g c =
    let within = place_within c.reserve.new.self.items c.args.sent.now.items c.args.number _
    c.reserve.ensures.items
    c.requires.1 in
    c.in_default.not-Ask c.requires.0
    (read_is c.reserve.new.self.items c.args.sent.now.items c.args.number c.index.result.now _
    c.reserve.ensures.items within c.index.ensures c.requires.1)

pub returns : goal.returns
returns g c =
    let ask = c.in-Ask.ask in
    let answered = c.in_ok-did.did.0 in
    let room = c.reserve.ensures.items in
    let within = place_within c.reserve.new.self.items c.args.sent.now.items c.args.number _ room
    c.requires.1 in
    let came = read c.reserve.new.self.items c.args.sent.now.items c.args.number
    c.index.result.now _ room within
    c.index.ensures c.in-Ask.is in
    let sent = c.post.ensures.sent
    ∙ ap (λ xs. with_one (messages_of xs) (message_by ask.caller ask.number answered)) room
    ∙ ap (with_one (messages_of c.args.sent.now.items)) (message_is ask answered) in
    let targets = c.post.ensures.targets
    ∙ ap (λ xs. with_one (targets_of xs) (target_of answered)) room in
    let noted = c.add_done.ensures
    ∙ ap (λ xs. with_one xs c.in_ok-did.did.1) c.reserve-2.ensures.same
    ∙ ap (with_one c.args.history.now.calls) c.in_ok-did.ensures.answer.1 in
    record {
      effect =
          record {
            message = sent_by ask answered;
            target = target_of answered;
            done = ask_done ask
                c.args.node.now;
          };
      does =
          record {
            ask = ask;
            answered = answered;
            came = came;
            is = c.in_ok-did.ensures.answer.0;
            told = c.post.ensures.outcome
                ∙ ap (λ xs. outcome_of answered (length (messages_of xs))) room;
            effect_is = refl;
          };
      steps = subst (λ t. NodeStep c.args.node.now t c.on_ask.new.self (sent_by ask answered)
          (ask_done ask c.args.node.now))
          (sym came) c.in_ok-did.ensures.step;
      log_is = λ i. record { sent = sent i; targets = targets i; history = noted i };
    }
