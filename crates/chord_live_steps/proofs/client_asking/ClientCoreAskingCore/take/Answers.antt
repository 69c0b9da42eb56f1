use Rattle.std.proofs.Common.{sym, ap, subst}
use Rattle.chord_caller.specs.Caller.{Caller}
use Rattle.chord_caller.specs.Client.{caller_after_hearing}
use Rattle.chord_live_steps.specs.Ending.{TookReply}
use Rattle.chord_table.specs.Views.{CallerSight}
use Rattle.chord_live_steps.proofs.Hearing.{took_awaited, known_not_fresh, foreign_not_fresh}
use Rattle.chord_live_steps.proofs.client_asking.ClientCoreAskingCore.take.Goals as goal

pub returns-in-Fresh-clause-ends : goal.returns-in-Fresh-clause-ends
returns-in-Fresh-clause-ends g c =
    let old = c.args.seat.now.caller in
    subst (λ (after : Caller). TookReply c.args.number c.in-Fresh.reply old after) (sym (ap (λ (s : CallerSight). s.caller) c.hear.ensures))
    (took_awaited c.args.number c.args.told c.in-Fresh.reply old (caller_after_hearing c.args.told old) c.if-told-number.false c.in-Fresh.ensures.reply
    (c.in-Fresh.ensures.answer old c.requires.core).1)

pub returns-in-Known-clause-answered : goal.returns-in-Known-clause-answered
returns-in-Known-clause-answered g c same none =
    let old = c.args.seat.now.caller in
    known_not_fresh c.args.told old (caller_after_hearing c.args.told old) (c.in-Known.ensures.answer old c.requires.core).1

pub returns-in-Foreign-clause-answered : goal.returns-in-Foreign-clause-answered
returns-in-Foreign-clause-answered g c same none =
    let old = c.args.seat.now.caller in
    foreign_not_fresh c.args.told old (caller_after_hearing c.args.told old) (c.in-Foreign.ensures.answer old c.requires.core).1
