use Rattle.std.proofs.Common.{◌≡◌, List, ◌<◌, length, get_or, false, ap, sym, subst, ◌∙◌, rules}
use Rattle.chord_segment.specs.Callers.{OfCaller, IsGrouped}
use Rattle.chord_segment.proofs.Telling.{marks_pass, calls_pass}
use Rattle.chord_segment.proofs.callers.Callers.next_shown.Goals as goal

pub loop-i-preserved : goal.loop-i-preserved
loop-i-preserved c =
    let xs = c.args.self.now in
    let own = c.index.result.now in
    let i = c.loop-i.i in
    let is : own ≡ get_or xs i own = c.index.ensures ∙ ap (λ (ys : List OfCaller). get_or ys i own) c.self.view_is in
    let hidden : (get_or xs i own).shown ≡ false = ap (λ (o : OfCaller). o.shown) (sym is) ∙ sym c.is_shown.ensures ∙ c.if-is_shown.false in
    let below : i < length xs = search rules in
    let grouped : IsGrouped xs = subst IsGrouped c.self.view_is c.self.invariant in
    record {
      marks = c.loop-i.invariant.marks ∙ marks_pass xs i own below hidden;
      calls = c.loop-i.invariant.calls ∙ calls_pass xs i own grouped below hidden;
    }
