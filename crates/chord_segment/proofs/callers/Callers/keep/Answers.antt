use Rattle.std.proofs.Common.{◌≤◌, List, [], ◌∷◌, refl, ap, sym, subst, ◌∙◌}
use Rattle.chord_segment.specs.Marks.{lift}
use Rattle.chord_segment.specs.Segment.{insert_call, insert_calls, calls_above}
use Rattle.chord_segment.specs.Callers.{OfCaller, IsOwnAt, HasRoom, AreAbove, marks_in, calls_in}
use Rattle.chord_segment.proofs.Keeping.{took_at}
use Rattle.chord_segment.proofs.Rooms.{no_room, room_at}
use Rattle.chord_segment.proofs.callers.Callers.keep.Goals as goal

pub keep-requires : goal.keep-requires
keep-requires c =
    let xs = c.self.inside.entries.items in
    let own = c.index_mut.result.now in
    let at = subst (λ (ys : List OfCaller). IsOwnAt c.args.done.caller ys c.in-Ok.place) (sym c.self.view_is) c.in-Ok.ensures.found in
    subst (λ (o : OfCaller). 1 ≤ o.room) (sym c.index_mut.ensures.value)
    (room_at c.args.done.caller 1 xs c.in-Ok.place own c.self.invariant at.in_range (at.is_own own) (subst (HasRoom c.args.done.caller 1) (sym c.self.view_is) c.requires.room))

pub unreachable-requires : goal.unreachable-requires
unreachable-requires c = no_room c.args.done.caller 1 c.args.self.now c.in-Err.field-0 c.in-Err.ensures.absent c.requires.room

pub invariant_of-self : goal.invariant_of-self
invariant_of-self c =
    let at = subst (λ (ys : List OfCaller). IsOwnAt c.args.done.caller ys c.in-Ok.place) (sym c.self.view_is) c.in-Ok.ensures.found in
    (took_at c.args.done.caller c.args.floor (c.args.done ∷ []) c.self.inside.entries.items c.in-Ok.place c.index_mut.result.now c.keep.new.self c.self.invariant at
    c.index_mut.ensures.value (refl, tt) (subst AreAbove (sym c.self.view_is) c.requires.above) c.keep.ensures.caller c.keep.ensures.floor c.keep.ensures.shown c.keep.ensures.kept).grouped

pub returns-clause-floors : goal.returns-clause-floors
returns-clause-floors c =
    let at = subst (λ (ys : List OfCaller). IsOwnAt c.args.done.caller ys c.in-Ok.place) (sym c.self.view_is) c.in-Ok.ensures.found in
    (took_at c.args.done.caller c.args.floor (c.args.done ∷ []) c.self.inside.entries.items c.in-Ok.place c.index_mut.result.now c.keep.new.self c.self.invariant at
    c.index_mut.ensures.value (refl, tt) (subst AreAbove (sym c.self.view_is) c.requires.above) c.keep.ensures.caller c.keep.ensures.floor c.keep.ensures.shown c.keep.ensures.kept).floors
    ∙ ap (λ (ys : List OfCaller). lift c.args.done.caller c.args.floor (marks_in ys)) c.self.view_is

pub returns-clause-calls : goal.returns-clause-calls
unfolding insert_calls
returns-clause-calls c =
    let at = subst (λ (ys : List OfCaller). IsOwnAt c.args.done.caller ys c.in-Ok.place) (sym c.self.view_is) c.in-Ok.ensures.found in
    (took_at c.args.done.caller c.args.floor (c.args.done ∷ []) c.self.inside.entries.items c.in-Ok.place c.index_mut.result.now c.keep.new.self c.self.invariant at
    c.index_mut.ensures.value (refl, tt) (subst AreAbove (sym c.self.view_is) c.requires.above) c.keep.ensures.caller c.keep.ensures.floor c.keep.ensures.shown c.keep.ensures.kept).calls
    ∙ ap (λ (ys : List OfCaller). calls_above (lift c.args.done.caller c.args.floor (marks_in ys)) (insert_call c.args.done (calls_in ys))) c.self.view_is
