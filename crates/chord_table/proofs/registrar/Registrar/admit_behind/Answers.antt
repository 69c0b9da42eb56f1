use Rattle.std.proofs.Common.{ℕ, ◌<◌, sym, ◌∙◌, ap, subst, [], ◌∷◌, ◌++◌}
use Rattle.atomic_table.specs.Table.{Me}
use Rattle.chord_table.proofs.Admitting.{took, numbered, released, returned, assembled_as}
use Rattle.chord_table.proofs.Keeping.{in_table, join_as, seated_as}
use Rattle.chord_table.proofs.Relinking.{vacate_as}
use Rattle.chord_table.proofs.Giving.{give_as, some_behind}
use Rattle.chord_table.proofs.Taking.{take_as}
use Rattle.chord_table.specs.Seen.{View}
use Rattle.chord_table.specs.Views.{TableId, assembled_of, sight_of, view_of, view_of_assembled, with_number}
use Rattle.chord_table.proofs.registrar.Registrar.admit_behind.Goals as goal

pub load_new_seat-nothing-requires : goal.load_new_seat-nothing-requires
load_new_seat-nothing-requires g c =
    let named = c.args.table.now.named in (
      subst (λ (t : TableId). 0 < t.words) (sym named) c.args.table.now.some,
      vacate_as _ _,
    )

pub join_seat-requires : goal.join_seat-requires
join_seat-requires g c =
    let theirs = c.replace-theirs.ensures.value in
    let is = c.self.invariant.1 ∙ ap (λ a. (view_of_assembled a, [])) c.self.view_is in
    let came = ap (λ s. s.me) theirs ∙ c.pred.invariant.1 ∙ ap (λ s. (view_of s, [])) c.pred.view_is in
    let at = in_table c.args.table.now.named c.self.invariant.0 (ap (λ s. s.table_id) theirs ∙ c.pred.invariant.0) c.args.table.now.some in
    (at.0, at.1, ap (λ m. m.1) came, at.2, take_as _ _ _ _ c.args.self.now c.args.pred.now is came)

pub split_seat-seat-requires : goal.split_seat-seat-requires
split_seat-seat-requires g c =
    let theirs = c.replace-theirs.ensures.value in
    let is = c.self.invariant.1 ∙ ap (λ a. (view_of_assembled a, [])) c.self.view_is in
    let came = ap (λ s. s.me) theirs ∙ c.pred.invariant.1 ∙ ap (λ s. (view_of s, [])) c.pred.view_is in
    let first = took _ _ _ c.args.self.now c.args.pred.now is came c.join_seat.ensures.2 in
    let at = in_table c.args.table.now.named c.self.invariant.0 c.self.invariant.0 c.args.table.now.some in
    (c.join_seat.ensures.0 ∙ at.0, at.2, join_as _ g.E.Event.actor _ (record c.args.self.now { taken = c.args.self.now.taken ++ c.args.pred.now ∷ [] }) first c.requires.may)

pub split_seat-back-requires : goal.split_seat-back-requires
split_seat-back-requires g c =
    let theirs = c.replace-theirs.ensures.value in
    let is = c.self.invariant.1 ∙ ap (λ a. (view_of_assembled a, [])) c.self.view_is in
    let came = ap (λ s. s.me) theirs ∙ c.pred.invariant.1 ∙ ap (λ s. (view_of s, [])) c.pred.view_is in
    let first = took _ _ _ c.args.self.now c.args.pred.now is came c.join_seat.ensures.2 in
    let second = numbered _ _ (record c.args.self.now { taken = c.args.self.now.taken ++ c.args.pred.now ∷ [] }) g.E.Event.actor first c.split_seat-seat.ensures.2 in
    let at = in_table c.args.table.now.named c.self.invariant.0 c.self.invariant.0 c.args.table.now.some in
    (c.split_seat-seat.ensures.0 ∙ c.join_seat.ensures.0 ∙ at.0, at.2, give_as _ _ (record { register = with_number g.E.Event.actor c.args.self.now.register; taken = c.args.self.now.taken ++ c.args.pred.now ∷ [] }) second (some_behind c.args.self.now.taken c.args.pred.now))

pub invariant_of-self : goal.invariant_of-self
invariant_of-self g c =
    let theirs = c.replace-theirs.ensures.value in
    let is = c.self.invariant.1 ∙ ap (λ a. (view_of_assembled a, [])) c.self.view_is in
    let came = ap (λ s. s.me) theirs ∙ c.pred.invariant.1 ∙ ap (λ s. (view_of s, [])) c.pred.view_is in
    let first = took _ _ _ c.args.self.now c.args.pred.now is came c.join_seat.ensures.2 in
    let second = numbered _ _ (record c.args.self.now { taken = c.args.self.now.taken ++ c.args.pred.now ∷ [] }) g.E.Event.actor first c.split_seat-seat.ensures.2 in
    let third = released _ _ (with_number g.E.Event.actor c.args.self.now.register) c.args.self.now.taken c.args.pred.now second c.split_seat-back.ensures.2 in
    (c.split_seat-back.ensures.0 ∙ c.split_seat-seat.ensures.0 ∙ c.join_seat.ensures.0 ∙ c.self.invariant.0, assembled_as _ _ third)

pub invariant_of-pred : goal.invariant_of-pred
invariant_of-pred g c =
    let theirs = c.replace-theirs.ensures.value in
    let is = c.self.invariant.1 ∙ ap (λ a. (view_of_assembled a, [])) c.self.view_is in
    let came = ap (λ s. s.me) theirs ∙ c.pred.invariant.1 ∙ ap (λ s. (view_of s, [])) c.pred.view_is in
    let first = took _ _ _ c.args.self.now c.args.pred.now is came c.join_seat.ensures.2 in
    let second = numbered _ _ (record c.args.self.now { taken = c.args.self.now.taken ++ c.args.pred.now ∷ [] }) g.E.Event.actor first c.split_seat-seat.ensures.2 in
    let back = returned _ _ (with_number g.E.Event.actor c.args.self.now.register) c.args.self.now.taken c.args.pred.now second c.split_seat-back.ensures.4 in
    let seat = seated_as c.split_seat-back.result.me c.args.pred.now back in
    (c.split_seat-back.ensures.3 ∙ c.split_seat-seat.ensures.0 ∙ c.join_seat.ensures.0 ∙ c.self.invariant.0, seat, c.pred.invariant.2)

pub returns-clause-admitted : goal.returns-clause-admitted
returns-clause-admitted g c =
    let theirs = c.replace-theirs.ensures.value in
    let is = c.self.invariant.1 ∙ ap (λ a. (view_of_assembled a, [])) c.self.view_is in
    let came = ap (λ s. s.me) theirs ∙ c.pred.invariant.1 ∙ ap (λ s. (view_of s, [])) c.pred.view_is in
    let first = took _ _ _ c.args.self.now c.args.pred.now is came c.join_seat.ensures.2 in
    let second = numbered _ _ (record c.args.self.now { taken = c.args.self.now.taken ++ c.args.pred.now ∷ [] }) g.E.Event.actor first c.split_seat-seat.ensures.2 in
    ap (λ (m : Me ℕ View). assembled_of m.0) (released _ _ (with_number g.E.Event.actor c.args.self.now.register) c.args.self.now.taken c.args.pred.now second c.split_seat-back.ensures.2)

pub returns-clause-pred : goal.returns-clause-pred
returns-clause-pred g c =
    let theirs = c.replace-theirs.ensures.value in
    let is = c.self.invariant.1 ∙ ap (λ a. (view_of_assembled a, [])) c.self.view_is in
    let came = ap (λ s. s.me) theirs ∙ c.pred.invariant.1 ∙ ap (λ s. (view_of s, [])) c.pred.view_is in
    let first = took _ _ _ c.args.self.now c.args.pred.now is came c.join_seat.ensures.2 in
    let second = numbered _ _ (record c.args.self.now { taken = c.args.self.now.taken ++ c.args.pred.now ∷ [] }) g.E.Event.actor first c.split_seat-seat.ensures.2 in
    ap (λ (m : Me ℕ View). sight_of m.0) (returned _ _ (with_number g.E.Event.actor c.args.self.now.register) c.args.self.now.taken c.args.pred.now second c.split_seat-back.ensures.4)
