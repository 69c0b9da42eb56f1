use Rattle.std.proofs.Common.{ℕ, ◌∙◌, ap, [], ◌∷◌, ◌++◌, true, false}
use Rattle.atomic_table.specs.Table.{Me}
use Rattle.chord_table.proofs.Admitting.{took, released, returned, assembled_as}
use Rattle.chord_table.proofs.Departing.{break_of, broken_seats}
use Rattle.chord_table.proofs.Keeping.{in_table}
use Rattle.chord_table.proofs.Giving.{give_as, some_behind}
use Rattle.chord_table.proofs.Taking.{take_as}
use Rattle.chord_table.specs.Seen.{OfNode, View}
use Rattle.chord_table.specs.Views.{assembled_of, sight_of, view_of, view_of_assembled, node_in}
use Rattle.chord_table.proofs.registrar.Registrar.break_actor.Goals as goal

pub join_seat-requires : goal.join_seat-requires
join_seat-requires g c =
    let is = c.self.invariant.1 ∙ ap (λ a. (view_of_assembled a, [])) c.self.view_is in
    let came = c.taken.invariant.1 ∙ ap (λ s. (view_of s, [])) c.taken.view_is in
    let at = in_table c.args.table.now.named c.self.invariant.0 c.taken.invariant.0 c.args.table.now.some in
    (at.0, at.1, ap (λ m. m.1) came, at.2, take_as _ _ _ _ c.args.self.now c.args.taken is came)

pub load-requires : goal.load-requires
load-requires g c =
    let is = c.self.invariant.1 ∙ ap (λ a. (view_of_assembled a, [])) c.self.view_is in
    let came = c.taken.invariant.1 ∙ ap (λ s. (view_of s, [])) c.taken.view_is in
    let first = took _ _ _ c.args.self.now c.args.taken is came c.join_seat.ensures.2 in
    let at = in_table c.args.table.now.named c.self.invariant.0 c.self.invariant.0 c.args.table.now.some in (
      c.join_seat.ensures.0 ∙ at.0,
      at.2,
      break_of _ _ _ _ c.args.self.now.register c.args.self.now.taken c.args.taken (λ n. n) first c.requires.node,
    )

pub split_seat-seat-requires : goal.split_seat-seat-requires
split_seat-seat-requires g c =
    let is = c.self.invariant.1 ∙ ap (λ a. (view_of_assembled a, [])) c.self.view_is in
    let came = c.taken.invariant.1 ∙ ap (λ s. (view_of s, [])) c.taken.view_is in
    let first = took _ _ _ c.args.self.now c.args.taken is came c.join_seat.ensures.2 in
    let register = record c.args.self.now.register { premise = false } in
    let broken = record c.args.taken { actor = OfNode (node_in c.args.taken.actor) true } in
    let second = broken_seats _ _ c.args.self.now.register c.args.self.now.taken c.args.taken first c.requires.node c.load.ensures.2 in
    let at = in_table c.args.table.now.named c.self.invariant.0 c.self.invariant.0 c.args.table.now.some in (
      c.load.ensures.0 ∙ c.join_seat.ensures.0 ∙ at.0,
      at.2,
      give_as _ _ (record { register = register; taken = c.args.self.now.taken ++ broken ∷ [] }) second (some_behind c.args.self.now.taken broken),
    )

pub invariant_of-self : goal.invariant_of-self
invariant_of-self g c =
    let is = c.self.invariant.1 ∙ ap (λ a. (view_of_assembled a, [])) c.self.view_is in
    let came = c.taken.invariant.1 ∙ ap (λ s. (view_of s, [])) c.taken.view_is in
    let first = took _ _ _ c.args.self.now c.args.taken is came c.join_seat.ensures.2 in
    let register = record c.args.self.now.register { premise = false } in
    let broken = record c.args.taken { actor = OfNode (node_in c.args.taken.actor) true } in
    let second = broken_seats _ _ c.args.self.now.register c.args.self.now.taken c.args.taken first c.requires.node c.load.ensures.2 in
    let third = released _ _ register c.args.self.now.taken broken second c.split_seat-seat.ensures.2 in (
      c.split_seat-seat.ensures.0 ∙ c.load.ensures.0 ∙ c.join_seat.ensures.0 ∙ c.self.invariant.0,
      assembled_as _ _ third,
    )

pub returns-clause-broken : goal.returns-clause-broken
returns-clause-broken g c =
    let is = c.self.invariant.1 ∙ ap (λ a. (view_of_assembled a, [])) c.self.view_is in
    let came = c.taken.invariant.1 ∙ ap (λ s. (view_of s, [])) c.taken.view_is in
    let first = took _ _ _ c.args.self.now c.args.taken is came c.join_seat.ensures.2 in
    let register = record c.args.self.now.register { premise = false } in
    let broken = record c.args.taken { actor = OfNode (node_in c.args.taken.actor) true } in
    let second = broken_seats _ _ c.args.self.now.register c.args.self.now.taken c.args.taken first c.requires.node c.load.ensures.2 in
    ap (λ (m : Me ℕ View). assembled_of m.0) (released _ _ register c.args.self.now.taken broken second c.split_seat-seat.ensures.2)

pub returns-clause-seat : goal.returns-clause-seat
returns-clause-seat g c =
    let is = c.self.invariant.1 ∙ ap (λ a. (view_of_assembled a, [])) c.self.view_is in
    let came = c.taken.invariant.1 ∙ ap (λ s. (view_of s, [])) c.taken.view_is in
    let first = took _ _ _ c.args.self.now c.args.taken is came c.join_seat.ensures.2 in
    let register = record c.args.self.now.register { premise = false } in
    let broken = record c.args.taken { actor = OfNode (node_in c.args.taken.actor) true } in
    let second = broken_seats _ _ c.args.self.now.register c.args.self.now.taken c.args.taken first c.requires.node c.load.ensures.2 in
    ap (λ (m : Me ℕ View). sight_of m.0) (returned _ _ register c.args.self.now.taken broken second c.split_seat-seat.ensures.4)
