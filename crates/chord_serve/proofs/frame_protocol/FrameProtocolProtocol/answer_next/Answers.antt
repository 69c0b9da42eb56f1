use Rattle.std.proofs.Common.{◌≡◌, true, Some, Ok, Err, refl, inl, inr}
use Rattle.chord_wire.specs.SessionReading.{next_session}
use Rattle.chord_wire.specs.declared.session_frame.SessionFrame.TheVariants.{Close}
use Rattle.chord_serve.proofs.BatchLaws.{closed_ends, kept_now, memory_ends, over_now, refused_ends}
use Rattle.chord_serve.proofs.Framings.{fresh}
use Rattle.chord_serve.specs.Served.{is_misplaced}
use Rattle.chord_serve.specs.declared.served.Served.TheVariants as served
use Rattle.chord_serve.proofs.frame_protocol.FrameProtocolProtocol.answer_next.Goals as goal

pub returns-then-eq-clause-next : goal.returns-then-eq-clause-next
returns-then-eq-clause-next g c before at =
    let it = c.args.self.now in
    rw (fresh g.A.Asker.answers before it c.in_default.not-Some at)
    (kept_now g.A.Asker.answers served.Memory it.is_opened it.is_over it.client it.frames c.args.due.now c.args.due.now (memory_ends g.A.Asker.answers it.is_opened it.client.version it.client.numbers it.client.asker it.frames c.args.due.now c.args.due.now refl))

pub returns-in-Err-clause-next : goal.returns-in-Err-clause-next
returns-in-Err-clause-next g c before at =
    let it = c.args.self.now in
    let refused : next_session it.frames ≡ Err c.in-Err.fault = elim c.in-Err.ensures.exact.0 [
      | inl fault ↦ fault
      | inr memory ↦ let wrong = rw memory.0 at c.if-eq.ensures in absurd cc
    ] in
    rw (fresh g.A.Asker.answers before it c.in_default.not-Some at)
    (kept_now g.A.Asker.answers c.refuse.result it.is_opened it.is_over it.client it.frames c.args.due.now c.refuse.new.due
    (refused_ends g.A.Asker.answers c.refuse.result c.in-Err.fault it.is_opened it.client.version it.client.numbers it.client.asker it.frames c.args.due.now c.refuse.new.due (inl refused) c.refuse.ensures.due))

pub returns-in-Open-clause-next : goal.returns-in-Open-clause-next
returns-in-Open-clause-next g c before at =
    let it = c.args.self.now in
    let next : next_session it.frames ≡ Ok (Some (c.in-Some-next.frame, c.next.new.self)) = rw c.in-Some-next.is at c.in-Ok.ensures.exact in
    let misplaced : is_misplaced it.is_opened c.in-Some-next.frame ≡ true = rw c.in-Open.is refl in
    rw (fresh g.A.Asker.answers before it c.in_default.not-Some at)
    (kept_now g.A.Asker.answers c.refuse-in-Open.result it.is_opened it.is_over it.client it.frames c.args.due.now c.refuse-in-Open.new.due
    (refused_ends g.A.Asker.answers c.refuse-in-Open.result _ it.is_opened it.client.version it.client.numbers it.client.asker it.frames c.args.due.now c.refuse-in-Open.new.due (inr (inr (c.in-Some-next.frame, c.next.new.self, next, misplaced, refl))) c.refuse-in-Open.ensures.due))

pub returns-then-not-self-clause-next : goal.returns-then-not-self-clause-next
returns-then-not-self-clause-next g c before at =
    let it = c.args.self.now in
    let next : next_session it.frames ≡ Ok (Some (c.in-Some-next.frame, c.next.new.self)) = rw c.in-Some-next.is at c.in-Ok.ensures.exact in
    let misplaced : is_misplaced it.is_opened c.in-Some-next.frame ≡ true = rw (c.in-Close.is, c.if-not-self.true) refl in
    rw (fresh g.A.Asker.answers before it c.in_default.not-Some at)
    (kept_now g.A.Asker.answers c.refuse-then-not-self.result it.is_opened it.is_over it.client it.frames c.args.due.now c.refuse-then-not-self.new.due
    (refused_ends g.A.Asker.answers c.refuse-then-not-self.result _ it.is_opened it.client.version it.client.numbers it.client.asker it.frames c.args.due.now c.refuse-then-not-self.new.due (inr (inr (c.in-Some-next.frame, c.next.new.self, next, misplaced, refl))) c.refuse-then-not-self.ensures.due))

pub returns-else-not-self-clause-next : goal.returns-else-not-self-clause-next
returns-else-not-self-clause-next g c before at =
    let it = c.args.self.now in
    let next : next_session it.frames ≡ Ok (Some (Close, c.next.new.self)) = rw (c.in-Some-next.is, c.in-Close.is) at c.in-Ok.ensures.exact in
    rw (fresh g.A.Asker.answers before it c.in_default.not-Some at)
    (over_now g.A.Asker.answers c.close.result it.is_opened it.is_over it.client it.client.asker it.frames c.args.due.now c.close.new.due
    (closed_ends g.A.Asker.answers c.close.result it.is_opened it.client.version it.client.numbers it.client.asker it.frames c.args.due.now c.close.new.due (record { behind = c.next.new.self; opened = c.if-not-self.false; next = next }) c.close.ensures.due))
