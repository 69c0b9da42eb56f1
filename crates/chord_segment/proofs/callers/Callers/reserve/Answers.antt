use Rattle.std.proofs.Common.{◌≡◌, ℕ, ◌≤◌, List, get_or, ap, sym, subst, ◌∙◌, arith}
use Rattle.chord_segment.specs.Callers.{OfCaller, IsOwn, IsOwnAt, HasRoom, mark_in, marks_in, calls_in, without_room}
use Rattle.chord_segment.proofs.Bare.{own_same}
use Rattle.chord_segment.proofs.Grouped.{each_at, owned, grouped-set, marks_set_same, calls_set_same}
use Rattle.chord_segment.proofs.Rooms.{no_room, room_at, room_set, keeps_set, on_ok}
use Rattle.chord_segment.proofs.Bare.{bare_is, mark_same}
use Rattle.chord_segment.proofs.callers.Callers.reserve.Goals as goal

pub invariant_of-self : goal.invariant_of-self
invariant_of-self c =
    let xs = c.self.inside.entries.items in
    let own = c.index_mut.result.now in
    let new = c.reserve.new.self in
    let f = c.reserve.ensures in
    let at = subst (λ (ys : List OfCaller). IsOwnAt c.args.caller ys c.in-Ok.place) (sym c.self.view_is) c.in-Ok.ensures.found in
    let is = c.index_mut.ensures.value in
    let here : OfCaller = get_or xs c.in-Ok.place own in
    let o : IsOwn here = each_at IsOwn xs c.in-Ok.place own (owned xs c.self.invariant) at.in_range in
    grouped-set xs c.in-Ok.place own new c.self.invariant at.in_range (sym (f.caller ∙ ap (λ (k : OfCaller). k.caller) is))
    (own_same new here (bare_is new own f.caller f.floor f.kept f.shown ∙ ap without_room is) o)

pub returns-in-Ok-clause-floors : goal.returns-in-Ok-clause-floors
returns-in-Ok-clause-floors c =
    let own = c.index_mut.result.now in
    let new = c.reserve.new.self in
    let f = c.reserve.ensures in
    let at = subst (λ (ys : List OfCaller). IsOwnAt c.args.caller ys c.in-Ok.place) (sym c.self.view_is) c.in-Ok.ensures.found in
    marks_set_same c.self.inside.entries.items c.in-Ok.place own new at.in_range
    (mark_same new own f.caller f.floor f.kept f.shown ∙ ap mark_in c.index_mut.ensures.value) ∙ ap marks_in c.self.view_is

pub returns-in-Ok-clause-room : goal.returns-in-Ok-clause-room
returns-in-Ok-clause-room c =
    let xs = c.self.inside.entries.items in
    let new = c.reserve.new.self in
    let at = subst (λ (ys : List OfCaller). IsOwnAt c.args.caller ys c.in-Ok.place) (sym c.self.view_is) c.in-Ok.ensures.found in
    let same : new.caller ≡ c.args.caller = c.reserve.ensures.caller ∙ ap (λ (k : OfCaller). k.caller) c.index_mut.ensures.value ∙ at.is_own c.index_mut.result.now in
    on_ok c.reserve.result (c.args.count ≤ new.room) (HasRoom c.args.caller c.args.count _) (λ l. room_set c.args.caller c.args.count xs c.in-Ok.place new at.in_range same l) c.reserve.ensures.room

pub returns-in-Ok-clause-succeeds : goal.returns-in-Ok-clause-succeeds
returns-in-Ok-clause-succeeds c = λ h.
    let xs = c.self.inside.entries.items in
    let own = c.index_mut.result.now in
    let at = subst (λ (ys : List OfCaller). IsOwnAt c.args.caller ys c.in-Ok.place) (sym c.self.view_is) c.in-Ok.ensures.found in
    c.reserve.ensures.succeeds (subst (λ (o : OfCaller). c.args.count ≤ o.room) (sym c.index_mut.ensures.value)
    (room_at c.args.caller c.args.count xs c.in-Ok.place own c.self.invariant at.in_range (at.is_own own) (subst (HasRoom c.args.caller c.args.count) (sym c.self.view_is) h)))

pub returns-in-Err-clause-succeeds : goal.returns-in-Err-clause-succeeds
returns-in-Err-clause-succeeds c = λ h. absurd (no_room c.args.caller c.args.count c.args.self.now c.in-Err.place c.in-Err.ensures.absent h)

pub returns-in-Ok-clause-calls : goal.returns-in-Ok-clause-calls
returns-in-Ok-clause-calls c =
    let at = subst (λ (ys : List OfCaller). IsOwnAt c.args.caller ys c.in-Ok.place) (sym c.self.view_is) c.in-Ok.ensures.found in
    calls_set_same c.self.inside.entries.items c.in-Ok.place c.index_mut.result.now c.reserve.new.self at.in_range
    (c.reserve.ensures.kept ∙ ap (λ (o : OfCaller). o.kept) c.index_mut.ensures.value) ∙ ap calls_in c.self.view_is

pub returns-in-Ok-clause-keeps : goal.returns-in-Ok-clause-keeps
returns-in-Ok-clause-keeps c = λ (other room : ℕ) h.
    let more = c.reserve.ensures.keeps in
    let is = ap (λ (o : OfCaller). o.room) c.index_mut.ensures.value in
    keeps_set other room c.self.inside.entries.items c.in-Ok.place c.index_mut.result.now c.reserve.new.self
    (c.reserve.ensures.caller ∙ ap (λ (o : OfCaller). o.caller) c.index_mut.ensures.value) (λ e l. omega arith)
    (subst (HasRoom other room) (sym c.self.view_is) h)
