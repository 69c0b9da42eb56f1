use Rattle.std.proofs.Common.{◌≡◌, ◌≤◌, ℕ, true, List, get_or, set, length, ap, sym, subst, ◌∙◌}
use Rattle.chord_segment.specs.declared.mark.Mark.{Mark}
use Rattle.chord_segment.specs.Marks.{lift}
use Rattle.chord_segment.specs.Segment.{insert_calls, calls_above}
use Rattle.chord_segment.specs.Callers.{OfCaller, IsOwnAt, HasRoom, AreAbove, marks_in, calls_in}
use Rattle.chord_segment.proofs.Keeping.{Took, took_at}
use Rattle.chord_segment.proofs.Merging.{lift_shown, marks_hidden, calls_hidden}
use Rattle.chord_segment.proofs.Rooms.{no_room, room_at, keeps_set}
use Rattle.chord_segment.proofs.callers.Callers.take.Goals as goal

pub returns-then-not-is_shown-clause-floors : goal.returns-then-not-is_shown-clause-floors
returns-then-not-is_shown-clause-floors c = marks_hidden c.args.other (marks_in c.args.self.now) (sym c.is_shown.ensures ∙ c.if-not-is_shown.true)

pub returns-then-not-is_shown-clause-calls : goal.returns-then-not-is_shown-clause-calls
returns-then-not-is_shown-clause-calls c =
    let marks = marks_in c.args.self.now in
    let calls = calls_in c.args.self.now in
    let e = sym c.is_shown.ensures ∙ c.if-not-is_shown.true in
    calls_hidden c.args.other marks calls c.requires.own e c.requires.above
    ∙ ap (λ (ms : List Mark). calls_above ms (insert_calls c.args.other.kept calls)) (sym (marks_hidden c.args.other marks e))

pub take-requires : goal.take-requires
take-requires c =
    let at : IsOwnAt c.args.other.caller c.self.inside.entries.items c.in-Ok.place =
    subst (λ (ys : List OfCaller). IsOwnAt c.args.other.caller ys c.in-Ok.place) (sym c.self.view_is) (subst (λ (k : ℕ). IsOwnAt k c.args.self.now c.in-Ok.place) c.caller.ensures c.in-Ok.ensures.found) in
    let n = length c.args.other.kept in
    let own = c.index_mut.result.now in
    subst (λ (o : OfCaller). n ≤ o.room) (sym c.index_mut.ensures.value)
    (room_at c.args.other.caller n c.self.inside.entries.items c.in-Ok.place own c.self.invariant at.in_range (at.is_own own) (subst (HasRoom c.args.other.caller n) (sym c.self.view_is) c.requires.room))

pub invariant_of-self : goal.invariant_of-self
invariant_of-self c =
    let at : IsOwnAt c.args.other.caller c.self.inside.entries.items c.in-Ok.place =
    subst (λ (ys : List OfCaller). IsOwnAt c.args.other.caller ys c.in-Ok.place) (sym c.self.view_is) (subst (λ (k : ℕ). IsOwnAt k c.args.self.now c.in-Ok.place) c.caller.ensures c.in-Ok.ensures.found) in
    (took_at c.args.other.caller c.args.other.floor c.args.other.kept c.self.inside.entries.items c.in-Ok.place c.index_mut.result.now c.take.new.self c.self.invariant at
    c.index_mut.ensures.value c.requires.own.own_calls (subst AreAbove (sym c.self.view_is) c.requires.above) c.take.ensures.caller c.take.ensures.floor c.take.ensures.shown c.take.ensures.kept).grouped

pub unreachable-requires : goal.unreachable-requires
unreachable-requires c =
    let n = length c.args.other.kept in
    no_room c.caller.result n c.args.self.now c.in-Err.field-0 c.in-Err.ensures.absent (subst (λ (k : ℕ). HasRoom k n c.args.self.now) (sym c.caller.ensures) c.requires.room)

pub returns-clause-floors : goal.returns-clause-floors
returns-clause-floors c =
    let at : IsOwnAt c.args.other.caller c.self.inside.entries.items c.in-Ok.place =
    subst (λ (ys : List OfCaller). IsOwnAt c.args.other.caller ys c.in-Ok.place) (sym c.self.view_is) (subst (λ (k : ℕ). IsOwnAt k c.args.self.now c.in-Ok.place) c.caller.ensures c.in-Ok.ensures.found) in
    let shown : c.args.other.shown ≡ true = sym c.is_shown.ensures ∙ c.if-not-is_shown.false in
    (took_at c.args.other.caller c.args.other.floor c.args.other.kept c.self.inside.entries.items c.in-Ok.place c.index_mut.result.now c.take.new.self c.self.invariant at
    c.index_mut.ensures.value c.requires.own.own_calls (subst AreAbove (sym c.self.view_is) c.requires.above) c.take.ensures.caller c.take.ensures.floor c.take.ensures.shown c.take.ensures.kept).floors
    ∙ ap (λ (ys : List OfCaller). lift c.args.other.caller c.args.other.floor (marks_in ys)) c.self.view_is
    ∙ lift_shown c.args.other (marks_in c.args.self.now) shown

pub returns-clause-calls : goal.returns-clause-calls
returns-clause-calls c =
    let at : IsOwnAt c.args.other.caller c.self.inside.entries.items c.in-Ok.place =
    subst (λ (ys : List OfCaller). IsOwnAt c.args.other.caller ys c.in-Ok.place) (sym c.self.view_is) (subst (λ (k : ℕ). IsOwnAt k c.args.self.now c.in-Ok.place) c.caller.ensures c.in-Ok.ensures.found) in
    let took : Took c.args.other.caller c.args.other.floor c.args.other.kept c.self.inside.entries.items _ =
    (took_at c.args.other.caller c.args.other.floor c.args.other.kept c.self.inside.entries.items c.in-Ok.place c.index_mut.result.now c.take.new.self c.self.invariant at
    c.index_mut.ensures.value c.requires.own.own_calls (subst AreAbove (sym c.self.view_is) c.requires.above) c.take.ensures.caller c.take.ensures.floor c.take.ensures.shown c.take.ensures.kept) in
    took.calls ∙ ap (λ (ms : List Mark). calls_above ms (insert_calls c.args.other.kept (calls_in c.self.inside.entries.items))) (sym took.floors)
    ∙ ap (λ (ys : List OfCaller). calls_above (marks_in (set c.self.inside.entries.items c.in-Ok.place c.take.new.self)) (insert_calls c.args.other.kept (calls_in ys))) c.self.view_is

pub returns-clause-room : goal.returns-clause-room
returns-clause-room c = λ (caller room : ℕ) apart h.
    let at : IsOwnAt c.args.other.caller c.self.inside.entries.items c.in-Ok.place =
    subst (λ (ys : List OfCaller). IsOwnAt c.args.other.caller ys c.in-Ok.place) (sym c.self.view_is) (subst (λ (k : ℕ). IsOwnAt k c.args.self.now c.in-Ok.place) c.caller.ensures c.in-Ok.ensures.found) in
    let own = c.index_mut.result.now in
    let new = c.take.new.self in
    let e : new.caller ≡ (get_or c.self.inside.entries.items c.in-Ok.place own).caller = c.take.ensures.caller ∙ ap (λ (o : OfCaller). o.caller) c.index_mut.ensures.value in
    keeps_set caller room c.self.inside.entries.items c.in-Ok.place own new e
    (λ same l. absurd (apart (sym (at.is_own own) ∙ sym e ∙ same))) (subst (HasRoom caller room) (sym c.self.view_is) h)
