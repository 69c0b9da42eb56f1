use Rattle.std.proofs.Common.{◌≡◌, false, None, Ok, sym, refl, inl, inr, ap, ◌∙◌}
use Rattle.chord_serve.proofs.BatchLaws.{one_dealt, over_now, refused_ends, step_ends}
use Rattle.chord_serve.proofs.Framings.{ends_kept}
use Rattle.chord_serve.specs.Served.{is_other}
use Rattle.chord_serve.specs.Steps.{Begins}
use Rattle.chord_serve.specs.declared.client_session.ClientSession.{ClientSession}
use Rattle.chord_serve.specs.declared.served.Served.TheVariants as served
use Rattle.chord_serve.proofs.frame_protocol.FrameProtocol.answer.Goals as goal

pub returns-then-is_other-clause-next : goal.returns-then-is_other-clause-next
returns-then-is_other-clause-next g c before taken same =
    ends_kept g.A.Asker.answers c.refuse.result before c.args.self.now.is_over c.args.self.now.client c.args.due.now c.refuse.new.due taken.same.1 (sym same)
    (refused_ends g.A.Asker.answers c.refuse.result _ before.is_opened before.client.version before.client.numbers before.client.asker before.frames c.args.due.now c.refuse.new.due
    (inr (inl (c.args.wire, c.args.self.now.frames, taken.next, ap (λ (x : ClientSession g.row.A.Denot). is_other x.version c.args.wire.version) same ∙ sym c.if-is_other.ensures, refl))) c.refuse.ensures.due)

pub returns-in-Ok-None-clause-next : goal.returns-in-Ok-None-clause-next
returns-in-Ok-None-clause-next g c before taken same =
    let old = c.args.self.now in
    let new = c.begin.new.self in
    let step : Begins g.A.Asker.answers (Ok None) old.client.numbers old.client.asker c.args.wire c.args.due.now c.begin.new.due new.numbers new.asker = rw c.in-Ok-None.field-0-is at c.in-Ok-None.ensures.begins in
    let first : is_other before.client.version c.args.wire.version ≡ false = ap (λ (x : ClientSession g.row.A.Denot). is_other x.version c.args.wire.version) same ∙ sym c.if-is_other.ensures in
    (step.0, (rw c.in-Ok-None.ensures.version (one_dealt g.A.Asker.answers before.client.version before.client.numbers new.numbers before.client.asker new.asker c.args.wire before.frames step.0 old.frames (taken.fits, taken.frames_are) first (rw same step.1)), taken.same.0, taken.same.1), c.requires.idle, step.2)

pub returns-in-Err-clause-next : goal.returns-in-Err-clause-next
returns-in-Err-clause-next g c before taken same =
    let old = c.args.self.now in
    let new = c.begin.new.self in
    let first : is_other before.client.version c.args.wire.version ≡ false = ap (λ (x : ClientSession g.row.A.Denot). is_other x.version c.args.wire.version) same ∙ sym c.if-is_other.ensures in
    over_now g.A.Asker.answers served.Memory before.is_opened before.is_over before.client new.asker before.frames c.args.due.now c.begin.new.due
    (step_ends g.A.Asker.answers c.in-Err.field-0 before.is_opened before.client.version before.client.numbers new.numbers before.client.asker new.asker c.args.wire before.frames old.frames c.args.due.now c.begin.new.due taken.next first (rw same c.in-Err.ensures.begins))
