use Rattle.std.proofs.Common.{refl}
use Rattle.chord_live_steps.proofs.Sending.{asked, key_kept}
use Rattle.chord_live_steps.proofs.dealing.deal_ask.Goals as goal

pub returns-clause-answer : goal.returns-clause-answer
returns-clause-answer g c = (c.in_ok-answered.answered, c.in_ok-answered.ensures.answer, c.answer_of.ensures)

pub returns-clause-step : goal.returns-clause-step
returns-clause-step g c =
    asked c.args.ask c.in_ok-answered.answered _ c.args.node.now c.take_ask.new.self c.answer_of.result refl c.answer_of.ensures c.in_ok-answered.ensures.step

pub returns-clause-key : goal.returns-clause-key
returns-clause-key g c =
    key_kept c.args.id.number c.args.ask c.in_ok-answered.answered c.args.node.now c.take_ask.new.self c.answer_of.result c.requires c.answer_of.ensures c.in_ok-answered.ensures.answer
