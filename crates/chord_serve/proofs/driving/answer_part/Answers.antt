use Rattle.std.proofs.Common.{◌<◌, length, refl, ap, arith, inl}
use Rattle.std.proofs.lemmas.Result.{err_from_is_err_and}
use Rattle.chord_serve.specs.Conversing.Talks.{Begins}
use Rattle.chord_serve.proofs.Conversing.{said_more, no_more, part_stops}
use Rattle.chord_serve.proofs.driving.answer_part.Goals as goal

pub loop-alloc-init : goal.loop-alloc-init
loop-alloc-init g c = record {
  so = rw c.requires.empty Begins;
  idle = c.requires.idle;
  within = omega arith;
  shorter = λ some. absurd (omega (arith, ap length c.requires.empty, some));
}

pub loop-alloc-preserved : goal.loop-alloc-preserved
loop-alloc-preserved g c =
    let d = g.P.Protocol in
    let before = c.args.protocol.now in
    let new = c.answer_next.new in
    let now = c.loop-alloc.protocol in
    let next = rw c.in-Answered.is at c.in_ok-answer_next.ensures.next now (inl (c.loop-alloc.invariant.idle, refl)) in
    let shorter = rw c.in-Answered.is at c.in_ok-answer_next.ensures.shorter c.loop-alloc.invariant.idle in
    let fewer : d.unread new.self < d.unread before = omega (arith, c.loop-alloc.invariant.within, shorter refl) in
    record {
      so = said_more d.hears d.says d.stops d.rests d.idle d.begun before now new.self c.loop-alloc.due new.due c.loop-alloc.invariant.so next;
      idle = next.2;
      within = omega arith;
      shorter = λ _. fewer;
    }

pub returns-in_err-answer_next-clause-part : goal.returns-in_err-answer_next-clause-part
returns-in_err-answer_next-clause-part g c =
    let d = g.P.Protocol in
    let new = c.answer_next.new in
    let now = c.loop-alloc.protocol in
    let p = err_from_is_err_and c.from_residual.result c.from_residual.ensures.1 in
    let next = c.in_err-answer_next.ensures.next now (inl (c.loop-alloc.invariant.idle, refl)) in
    rw (p.1, p.2) (part_stops d.hears d.says d.stops d.rests d.idle d.begun c.in_err-answer_next.field-0.0 c.args.protocol.now now new.self c.loop-alloc.due new.due c.loop-alloc.invariant.so next)

pub returns-in-Nothing-clause-part : goal.returns-in-Nothing-clause-part
returns-in-Nothing-clause-part g c =
    let d = g.P.Protocol in
    let now = c.loop-alloc.protocol in
    let next = rw c.in-Nothing.is at c.in_ok-answer_next.ensures.next now (inl (c.loop-alloc.invariant.idle, refl)) in
    (no_more d.hears d.says d.stops d.rests d.idle d.begun c.args.protocol.now now c.answer_next.new.self c.loop-alloc.due c.answer_next.new.due c.loop-alloc.invariant.so next, λ _. next.0)

pub returns-in-Nothing-clause-idle : goal.returns-in-Nothing-clause-idle
returns-in-Nothing-clause-idle g c =
    let next = rw c.in-Nothing.is at c.in_ok-answer_next.ensures.next c.loop-alloc.protocol (inl (c.loop-alloc.invariant.idle, refl)) in
    next.2
