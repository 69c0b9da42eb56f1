use Rattle.std.proofs.Common.{List, ap, sym, subst, ◌∙◌}
use Rattle.chord_segment.specs.Segment.{stands_twice}
use Rattle.chord_segment.specs.Callers.{OfCaller, IsOwn, IsGrouped, calls_in}
use Rattle.chord_segment.proofs.Grouped.{each_at, owned}
use Rattle.chord_segment.proofs.Twice.{twice_init, twice_next, twice_found}
use Rattle.chord_segment.proofs.callers.Callers.any_twice.Goals as goal

pub loop-own-init : goal.loop-own-init
loop-own-init c = twice_init (calls_in c.args.self.now) c.deref-own-items.result.now

pub keeps_any-requires : goal.keeps_any-requires
keeps_any-requires c =
    let ys = c.deref-own-items.result.now in
    let grouped : IsGrouped ys = subst IsGrouped (sym c.deref-own-items.ensures.value) c.other.invariant in
    subst IsOwn (sym c.own-item.is) (each_at IsOwn ys c.loop-own.own-index c.own-item.result (owned ys grouped) c.loop-own-test.true)

pub returns-then-keeps_any : goal.returns-then-keeps_any
returns-then-keeps_any c =
    let ys = c.deref-own-items.result.now in
    let all = calls_in c.args.self.now in
    twice_found all ys c.loop-own.own-index c.own-item.result c.loop-own-test.true
    (ap (λ (o : OfCaller). stands_twice all o.kept) (sym c.own-item.is) ∙ sym c.keeps_any.ensures ∙ c.if-keeps_any.true)
    ∙ ap (λ (zs : List OfCaller). stands_twice all (calls_in zs)) (c.deref-own-items.ensures.value ∙ c.other.view_is)

pub loop-own-preserved : goal.loop-own-preserved
loop-own-preserved c =
    let ys = c.deref-own-items.result.now in
    let all = calls_in c.args.self.now in
    twice_next all ys c.loop-own.own-index c.own-item.result c.loop-own-test.true c.loop-own.invariant
    (ap (λ (o : OfCaller). stands_twice all o.kept) (sym c.own-item.is) ∙ sym c.keeps_any.ensures ∙ c.if-keeps_any.false)
