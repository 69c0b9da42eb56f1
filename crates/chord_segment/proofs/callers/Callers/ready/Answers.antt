use Rattle.std.proofs.Common.{ℕ, length, subst, ◌∙◌}
use Rattle.chord_segment.specs.Callers.{OfCaller, HasRoom}
use Rattle.chord_segment.proofs.Rooms.{room_next}
use Rattle.chord_segment.proofs.callers.Callers.ready.Goals as goal

pub returns-in_err-reserve-clause-keeps : goal.returns-in_err-reserve-clause-keeps
returns-in_err-reserve-clause-keeps c = λ (caller room : ℕ) h. c.reserve.ensures.keeps caller room (c.loop-own.invariant.keeps caller room h)

pub loop-own-preserved : goal.loop-own-preserved
loop-own-preserved c =
    let ys = c.deref-own-items.result.now in
    let i = c.loop-own.own-index in
    let own = c.own-item.result in
    let new = c.reserve.new.self in
    let room : HasRoom c.caller.result c.len.result new = c.in_ok-reserve.ensures.room in
    let named : HasRoom own.caller c.len.result new = subst (λ (k : ℕ). HasRoom k c.len.result new) c.caller.ensures room in
    let counted : HasRoom own.caller (length own.kept) new = subst (λ (k : ℕ). HasRoom own.caller k new) c.len.ensures named in
    record {
      floors = c.reserve.ensures.floors ∙ c.loop-own.invariant.floors;
      calls = c.reserve.ensures.calls ∙ c.loop-own.invariant.calls;
      keeps = λ (caller room : ℕ) h. c.reserve.ensures.keeps caller room (c.loop-own.invariant.keeps caller room h);
      room = room_next ys c.loop-own.self new i own c.reserve.ensures.keeps c.loop-own-test.true
          (subst (λ (o : OfCaller). HasRoom o.caller (length o.kept) new) c.own-item.is counted) c.loop-own.invariant.room;
    }
