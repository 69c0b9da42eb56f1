use Rattle.std.proofs.Common.{◌≡◌, ℕ, List, get_or, ap, sym, subst, ◌∙◌}
use Rattle.chord_map.specs.History.{done_at}
use Rattle.chord_segment.specs.Callers.{OfCaller, IsGrouped}
use Rattle.chord_segment.proofs.Grouped.{own_floor, own_done, gap_floor, gap_done}
use Rattle.chord_segment.proofs.callers.Callers.entry.Goals as goal

pub returns-in-Ok : goal.returns-in-Ok
returns-in-Ok c =
    let xs = c.args.self.now in
    let place = c.in-Ok.place in
    let at = c.in-Ok.ensures.found in
    let own = c.index.result.now in
    let grouped : IsGrouped xs = subst IsGrouped c.self.view_is c.self.invariant in
    let is : own ≡ get_or xs place own = c.index.ensures ∙ ap (λ (ys : List OfCaller). get_or ys place own) c.self.view_is in (
      own_floor c.args.caller xs place own grouped at.in_range (at.is_own own) ∙ sym (ap (λ (o : OfCaller). o.floor) is),
      λ (number : ℕ). own_done c.args.caller number xs place own grouped at.in_range (at.is_own own) ∙ sym (ap (λ (o : OfCaller). done_at c.args.caller number o.kept) is),
    )

pub returns-in-Err : goal.returns-in-Err
returns-in-Err c =
    let xs = c.args.self.now in
    let gap = c.in-Err.ensures.absent in
    let grouped : IsGrouped xs = subst IsGrouped c.self.view_is c.self.invariant in
    (gap_floor c.args.caller xs c.in-Err.field-0 gap, λ (number : ℕ). gap_done c.args.caller number xs c.in-Err.field-0 grouped gap)
