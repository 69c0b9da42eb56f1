use Rattle.std.proofs.Common.{◌≡◌, ℕ, ⊎_elim, List, Result, refl, ap, sym, subst, ◌∙◌}
use Rattle.std.specs.Prelude.{insert, is_ok, if◌then◌else◌}
use Rattle.chord_segment.specs.Callers.{OfCaller, IsGrouped, IsGapAt, HasRoom, marks_in, calls_in}
use Rattle.chord_segment.proofs.Bare.{hidden_own}
use Rattle.chord_segment.proofs.Grouped.{grouped-insert, marks_insert, calls_insert, grown}
use Rattle.chord_segment.proofs.Rooms.{keeps_insert, room_insert, on_made, on_err}
use Rattle.chord_segment.proofs.callers.Callers.enter.Goals as goal
use Rattle.chord_segment.proofs.callers.Callers.enter.Goals.{in-Ok, in-Err}

-- what holds with one more and without it
either_way : {A B : Type 0} (r : Result A B) (xs new more : List OfCaller) → new ≡ (if is_ok r then more else xs) → (P : List OfCaller → Type 0) → P more → P xs → P new
either_way r xs new more is P grew same = ⊎_elim (λ e. subst P (sym e) grew) (λ e. subst P (sym e) same) (grown r xs new more is)

pub invariant_of-self : goal.invariant_of-self
invariant_of-self c =
    let xs = c.self.inside.entries.items in
    let own = c.in_ok-entry.entry in
    let f = c.in_ok-entry.ensures in
    let gap : IsGapAt own.caller xs c.args.place = subst (λ (k : ℕ). IsGapAt k xs c.args.place) (sym f.caller) (subst (λ (ys : List OfCaller). IsGapAt c.args.caller ys c.args.place) (sym c.self.view_is) c.requires) in
    either_way c.insert.result xs _ (insert xs c.args.place own) c.insert.ensures.items IsGrouped (grouped-insert xs c.args.place own c.self.invariant gap (hidden_own own f.floor f.kept)) c.self.invariant

pub returns-clause-floors : goal.returns-clause-floors
returns-clause-floors c =
    let xs = c.self.inside.entries.items in
    either_way c.insert.result xs _ _ c.insert.ensures.items (λ ys. marks_in ys ≡ marks_in xs) (marks_insert xs c.args.place c.in_ok-entry.entry c.in_ok-entry.ensures.shown) refl ∙ ap marks_in c.self.view_is

pub returns-clause-calls : goal.returns-clause-calls
returns-clause-calls c =
    let xs = c.self.inside.entries.items in
    either_way c.insert.result xs _ _ c.insert.ensures.items (λ ys. calls_in ys ≡ calls_in xs) (calls_insert xs c.args.place c.in_ok-entry.entry c.in_ok-entry.ensures.kept) refl ∙ ap calls_in c.self.view_is

pub returns-clause-keeps : goal.returns-clause-keeps
returns-clause-keeps c = λ (other room : ℕ) h.
    let xs = c.self.inside.entries.items in
    let h' : HasRoom other room xs = subst (HasRoom other room) (sym c.self.view_is) h in
    either_way c.insert.result xs _ _ c.insert.ensures.items (HasRoom other room) (keeps_insert other room xs c.args.place c.in_ok-entry.entry h') h'

pub returns-clause-room : goal.returns-clause-room
returns-clause-room c =
    let xs = c.self.inside.entries.items in
    let own = c.in_ok-entry.entry in
    let f = c.in_ok-entry.ensures in
    let new = c.insert.new.self.items in
    let Goal : Type 0 = HasRoom c.args.caller c.args.count new in
    elim c.match-insert.branch [
      | in-Ok w ↦
          on_made c.insert.result c.match-insert.result w.in-Ok.field-0 Goal xs new (insert xs c.args.place own) w.in-Ok.is c.insert.ensures.items
          (λ e. subst (HasRoom c.args.caller c.args.count) (sym e) (room_insert c.args.caller c.args.count xs c.args.place own f.caller f.room))
      | in-Err w ↦ on_err c.match-insert.result _ Goal w.result-is
    ]
