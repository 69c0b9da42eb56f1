use Rattle.std.proofs.Common.{Ok, Err, subst}
use Rattle.chord_caller.specs.Answers.{TakeIs}
use Rattle.chord_caller.specs.declared.fault.TakeFault.{TakeFault}
use Rattle.chord_caller.specs.declared.heard.Heard.{Heard}
use Rattle.chord_live_steps.proofs.Hearing.{took_fresh, took_other, known_not_fresh, foreign_not_fresh}
use Rattle.chord_live_steps.proofs.caller_asking.CallerCoreAskingCore.take.Goals as goal

pub returns-then-told-number-clause-ends : goal.returns-then-told-number-clause-ends
returns-then-told-number-clause-ends g c =
    took_other c.args.number c.args.told c.args.seat.now.caller c.take_told.new.seat.caller c.take_told.result c.if-told-number.true c.take_told.ensures.answer

pub returns-in-Ok-Fresh-clause-ends : goal.returns-in-Ok-Fresh-clause-ends
returns-in-Ok-Fresh-clause-ends g c =
    took_fresh c.args.number c.args.told c.in-Ok.reply c.args.seat.now.caller c.take_told-2.new.seat.caller c.if-told-number.false c.in-Ok.ensures.copy
    (subst (λ (h : Heard). TakeIs c.args.told c.args.seat.now.caller (Ok h) c.take_told-2.new.seat.caller) c.in-Ok-Fresh.field-0-is c.in-Ok-Fresh.ensures.answer)

pub returns-in-Ok-Known-clause-answered : goal.returns-in-Ok-Known-clause-answered
returns-in-Ok-Known-clause-answered g c same none =
    known_not_fresh c.args.told c.args.seat.now.caller c.take_told-2.new.seat.caller
    (subst (λ (h : Heard). TakeIs c.args.told c.args.seat.now.caller (Ok h) c.take_told-2.new.seat.caller) c.in-Ok-Known.field-0-is c.in-Ok-Known.ensures.answer)

pub returns-in-Err-Foreign-clause-answered : goal.returns-in-Err-Foreign-clause-answered
returns-in-Err-Foreign-clause-answered g c same none =
    foreign_not_fresh c.args.told c.args.seat.now.caller c.take_told-2.new.seat.caller
    (subst (λ (f : TakeFault). TakeIs c.args.told c.args.seat.now.caller (Err f) c.take_told-2.new.seat.caller) c.in-Err-Foreign.field-0-is c.in-Err-Foreign.ensures.answer)
