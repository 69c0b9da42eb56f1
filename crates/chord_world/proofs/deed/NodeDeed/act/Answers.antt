use Rattle.std.proofs.Common.{Ok, refl, subst}
use Rattle.chord_node.specs.Received.{BackIs}
use Rattle.chord_world.proofs.Deeds.{changed}
use Rattle.chord_world.specs.Deeds.{NodeFits, log_of}
use Rattle.chord_world.specs.State.{messages_of}
use Rattle.chord_world.specs.declared.deed.NodeDeed.TheVariants as deed
use Rattle.chord_world.specs.declared.outcome.Outcome.TheVariants as did
use Rattle.chord_world.proofs.deed.NodeDeed.act.Goals as goal

pub outcome_of_declined-requires : goal.outcome_of_declined-requires
outcome_of_declined-requires g c clash =
    let fits = subst (λ d. NodeFits d c.args.node.now
    (messages_of c.args.sent.now.items)) c.in-TakeBack.is c.requires in
    fits.1 c.on_declined.new.self
    (subst (λ a. BackIs c.in-TakeBack.declined c.args.node.now
    (Ok a) c.on_declined.new.self) clash c.in_ok-back-in-TakeBack.ensures.answer)

pub returns-in_ok-cut_at-in-Cut : goal.returns-in_ok-cut_at-in-Cut
returns-in_ok-cut_at-in-Cut g c =
    changed c.args.self (deed.Cut c.in-Cut.place c.in-Cut.at) c.args.node.now c.cut_at.new.self
    (log_of c.args.sent.now.items c.args.history.now.calls) did.Done c.in-Cut.is
    (record { is = c.in_ok-cut_at-in-Cut.ensures.answer; told = refl; quiet = refl })
    c.in_ok-cut_at-in-Cut.ensures.step

pub returns-in_ok-merge-in-Merge : goal.returns-in_ok-merge-in-Merge
returns-in_ok-merge-in-Merge g c =
    changed c.args.self (deed.Merge c.in-Merge.place c.in-Merge.behind) c.args.node.now
    c.merge.new.self (log_of c.args.sent.now.items c.args.history.now.calls) did.Done c.in-Merge.is
    (record { is = c.in_ok-merge-in-Merge.ensures.answer; told = refl; quiet = refl })
    c.in_ok-merge-in-Merge.ensures.step

pub returns-in_ok-begin_leave-in-Leave : goal.returns-in_ok-begin_leave-in-Leave
returns-in_ok-begin_leave-in-Leave g c =
    changed c.args.self deed.Leave c.args.node.now c.begin_leave.new.self
    (log_of c.args.sent.now.items c.args.history.now.calls) did.Done c.in-Leave.is
    (record { is = c.in_ok-begin_leave-in-Leave.ensures.answer; told = refl; quiet = refl })
    c.in_ok-begin_leave-in-Leave.ensures.step

pub returns-in_ok-retire-in-Retire : goal.returns-in_ok-retire-in-Retire
returns-in_ok-retire-in-Retire g c =
    changed c.args.self deed.Retire c.args.node.now c.retire.new.self
    (log_of c.args.sent.now.items c.args.history.now.calls) did.Done c.in-Retire.is
    (record { is = c.in_ok-retire-in-Retire.ensures.answer; told = refl; quiet = refl })
    c.in_ok-retire-in-Retire.ensures.step

pub returns-in-TakeGot : goal.returns-in-TakeGot
returns-in-TakeGot g c =
    changed c.args.self (deed.TakeGot c.in-TakeGot.got) c.args.node.now c.on_got-freed.new.self
    (log_of c.args.sent.now.items c.args.history.now.calls) c.outcome_of_got.result c.in-TakeGot.is
    (record { found = c.on_got-freed.result; is = c.on_got-freed.ensures.answer; told = c.outcome_of_got.ensures; quiet = refl })
    c.on_got-freed.ensures.step

pub returns-in_ok-back-in-TakeBack : goal.returns-in_ok-back-in-TakeBack
returns-in_ok-back-in-TakeBack g c =
    changed c.args.self (deed.TakeBack c.in-TakeBack.declined) c.args.node.now
    c.on_declined.new.self (log_of c.args.sent.now.items c.args.history.now.calls)
    c.outcome_of_declined.result c.in-TakeBack.is
    (record { back = c.in_ok-back-in-TakeBack.back; is = c.in_ok-back-in-TakeBack.ensures.answer; told = c.outcome_of_declined.ensures; quiet = refl })
    c.in_ok-back-in-TakeBack.ensures.step

pub returns-in-SetFinger : goal.returns-in-SetFinger
returns-in-SetFinger g c =
    changed c.args.self (deed.SetFinger c.in-SetFinger.finger c.in-SetFinger.peer)
    c.args.node.now c.set_finger.new.node
    (log_of c.args.sent.now.items c.args.history.now.calls) did.Done c.in-SetFinger.is
    (refl, c.set_finger.ensures.value, refl) c.set_finger.ensures.step
