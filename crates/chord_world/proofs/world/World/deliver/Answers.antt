use Rattle.std.proofs.Common.{refl, sym, ap, arith}
use Rattle.chord_handover.specs.Handover.{Part}
use Rattle.chord_world.specs.View.{state_of}
use Rattle.chord_world.specs.State.{WorldState}
use Rattle.chord_world.proofs.Answering.{read, read_there, full_delivers, full_step}
use Rattle.chord_world.proofs.Acting.{keeps_all}
use Rattle.chord_world.proofs.Posting.{created, not_zero}
use Rattle.chord_world.proofs.Deeds.{part_received, got_received, back_received}
use Rattle.chord_world.proofs.Handing.{is_zero, uncreated}
use Rattle.chord_world.proofs.world.World.deliver.Goals as goal

pub deliver_ask-requires-clause-ask : goal.deliver_ask-requires-clause-ask
deliver_ask-requires-clause-ask g c = (c.in-Ask.field-0, read_there c.self.inside.sent.items (state_of c.self.inside) c.args.self.now refl c.self.view_is (omega arith) c.index.ensures c.in-Ask.is)

pub deliver_told-requires-clause-told : goal.deliver_told-requires-clause-told
deliver_told-requires-clause-told g c = (c.in-Told.field-0, read_there c.self.inside.sent.items (state_of c.self.inside) c.args.self.now refl c.self.view_is (omega arith) c.index.ensures c.in-Told.is)

pub returns-in-Note-clause-answer : goal.returns-in-Note-clause-answer
returns-in-Note-clause-answer g c = ((c.in-Note.field-0, read_there c.self.inside.sent.items (state_of c.self.inside) c.args.self.now refl c.self.view_is (omega arith) c.index.ensures c.in-Note.is), refl)

pub returns-in-Full-clause-answer : goal.returns-in-Full-clause-answer
returns-in-Full-clause-answer g c =
    let view : WorldState = state_of c.self.inside in
    full_delivers c.args.message _ _ view c.args.self.now c.self.view_is c.self.invariant
    (read c.self.inside.sent.items c.self.inside.sent.items c.args.message c.index.result.now _ refl (omega arith) c.index.ensures c.in-Full.is)

pub returns-in-Full-clause-step : goal.returns-in-Full-clause-step
returns-in-Full-clause-step g c =
    let view : WorldState = state_of c.self.inside in
    full_step c.args.message _ _ view c.args.self.now c.self.view_is c.self.invariant
    (read c.self.inside.sent.items c.self.inside.sent.items c.args.message c.index.result.now _ refl (omega arith) c.index.ensures c.in-Full.is)

pub deliver_ask-requires-clause-created : goal.deliver_ask-requires-clause-created
deliver_ask-requires-clause-created g c = created _ c.args.self.now c.self.view_is (let some = not_zero _ c.if-is_empty.ensures in omega arith)

pub deliver_told-requires-clause-created : goal.deliver_told-requires-clause-created
deliver_told-requires-clause-created g c = created _ c.args.self.now c.self.view_is (let some = not_zero _ c.if-is_empty.ensures in omega arith)

pub returns-then-is_empty : goal.returns-then-is_empty
returns-then-is_empty g c = record {
  answer = (uncreated _ c.args.self.now c.self.view_is (let none = is_zero _ c.if-is_empty.ensures in omega arith), refl);
  step = refl;
  ring = keeps_all c.args.self.now;
}

pub returns-then-message-len-clause-step : goal.returns-then-message-len-clause-step
returns-then-message-len-clause-step g c = refl

pub returns-then-message-len-clause-ring : goal.returns-then-message-len-clause-ring
returns-then-message-len-clause-ring g c = keeps_all c.args.self.now

pub returns-in-Note-clause-step : goal.returns-in-Note-clause-step
returns-in-Note-clause-step g c = refl

pub returns-in-Note-clause-ring : goal.returns-in-Note-clause-ring
returns-in-Note-clause-ring g c = keeps_all c.args.self.now

pub returns-in-Full-clause-ring : goal.returns-in-Full-clause-ring
returns-in-Full-clause-ring g c = keeps_all c.args.self.now

pub returns-in-Part-clause-answer : goal.returns-in-Part-clause-answer
returns-in-Part-clause-answer g c =
    part_received c.args.message c.part.inside.to c.in-Part.part (state_of c.self.inside) c.args.self.now
    c.act.new.self c.act.result c.self.view_is c.self.invariant
    (read_there c.self.inside.sent.items (state_of c.self.inside) c.args.self.now refl c.self.view_is (omega arith)
    c.index.ensures c.in-Part.is)
    (ap (λ (p : Part). p.to) (sym c.part.view_is)) c.act.ensures.answer

pub act-requires-in-Got : goal.act-requires-in-Got
act-requires-in-Got g c = (
  refl,
  (
    c.args.message,
    read_there c.self.inside.sent.items (state_of c.self.inside) c.args.self.now refl c.self.view_is (omega arith)
        c.index.ensures c.in-Got.is,
  ),
)

pub returns-in-Got-clause-answer : goal.returns-in-Got-clause-answer
returns-in-Got-clause-answer g c =
    got_received c.args.message c.in-Got.got (state_of c.self.inside) c.args.self.now c.act-in-Got.new.self
    c.act-in-Got.result c.self.view_is c.self.invariant
    (read_there c.self.inside.sent.items (state_of c.self.inside) c.args.self.now refl c.self.view_is (omega arith)
    c.index.ensures c.in-Got.is) c.act-in-Got.ensures.answer

pub act-requires-in-Declined : goal.act-requires-in-Declined
act-requires-in-Declined g c = (
  refl,
  (
    c.args.message,
    read_there c.self.inside.sent.items (state_of c.self.inside) c.args.self.now refl c.self.view_is (omega arith)
        c.index.ensures c.in-Declined.is,
  ),
)

pub returns-in-Declined-clause-answer : goal.returns-in-Declined-clause-answer
returns-in-Declined-clause-answer g c =
    back_received c.args.message c.in-Declined.declined (state_of c.self.inside) c.args.self.now c.act-in-Declined.new.self
    c.act-in-Declined.result c.self.view_is c.self.invariant
    (read_there c.self.inside.sent.items (state_of c.self.inside) c.args.self.now refl c.self.view_is (omega arith)
    c.index.ensures c.in-Declined.is) c.act-in-Declined.ensures.answer
