use Rattle.std.proofs.Common.{◌<◌, sym, ◌∙◌, ap, subst, []}
use Rattle.chord_table.proofs.Keeping.{in_table}
use Rattle.chord_table.proofs.Relinking.{vacate_as, pair_as, relink_as, joined_seat, relinked_seats}
use Rattle.chord_table.specs.Views.{TableId, view_of}
use Rattle.chord_table.proofs.actor_seat.ActorSeat.relink.Goals as goal

pub load_new_seat-nothing-requires : goal.load_new_seat-nothing-requires
load_new_seat-nothing-requires g c =
    let named = c.args.table.now.named in (
      subst (λ (t : TableId). 0 < t.words) (sym named) c.args.table.now.some,
      vacate_as _ _,
    )

pub join_seat-requires : goal.join_seat-requires
join_seat-requires g c =
    let theirs = c.replace-theirs.ensures.value in
    let came = ap (λ s. s.me) theirs ∙ c.other.invariant.1 ∙ ap (λ s. (view_of s, [])) c.other.view_is in
    let at = in_table c.args.table.now.named c.self.invariant.0 (ap (λ s. s.table_id) theirs ∙ c.other.invariant.0) c.args.table.now.some in
    (at.0, at.1, ap (λ m. m.1) came, at.2, pair_as _ _ _ _ c.args.self.now c.args.other.now (c.self.invariant.1 ∙ ap (λ s. (view_of s, [])) c.self.view_is) came)

pub split_seat-back-requires : goal.split_seat-back-requires
split_seat-back-requires g c =
    let theirs = c.replace-theirs.ensures.value in
    let is = c.self.invariant.1 ∙ ap (λ s. (view_of s, [])) c.self.view_is in
    let came = ap (λ s. s.me) theirs ∙ c.other.invariant.1 ∙ ap (λ s. (view_of s, [])) c.other.view_is in
    let at = in_table c.args.table.now.named c.self.invariant.0 c.self.invariant.0 c.args.table.now.some in (
      c.join_seat.ensures.0 ∙ at.0,
      at.2,
      relink_as _ _ c.args.self.now c.args.other.now g.E.Event.actor (joined_seat _ _ _ c.args.self.now c.args.other.now is came c.join_seat.ensures.2) c.requires.step,
    )

pub invariant_of-self : goal.invariant_of-self
invariant_of-self g c =
    let theirs = c.replace-theirs.ensures.value in
    let is = c.self.invariant.1 ∙ ap (λ s. (view_of s, [])) c.self.view_is in
    let came = ap (λ s. s.me) theirs ∙ c.other.invariant.1 ∙ ap (λ s. (view_of s, [])) c.other.view_is in
    let seats = relinked_seats c.self.inside.seat.me c.replace-theirs.result.me c.join_seat.new.seat.me c.split_seat-back.new.seat.me c.split_seat-back.result.me
    c.args.self.now c.args.other.now g.E.Event.actor is came c.join_seat.ensures.2 c.split_seat-back.ensures.2 c.split_seat-back.ensures.4 in
    (c.split_seat-back.ensures.0 ∙ c.join_seat.ensures.0 ∙ c.self.invariant.0, seats.0, c.self.invariant.2)

pub invariant_of-other : goal.invariant_of-other
invariant_of-other g c =
    let theirs = c.replace-theirs.ensures.value in
    let is = c.self.invariant.1 ∙ ap (λ s. (view_of s, [])) c.self.view_is in
    let came = ap (λ s. s.me) theirs ∙ c.other.invariant.1 ∙ ap (λ s. (view_of s, [])) c.other.view_is in
    let seats = relinked_seats c.self.inside.seat.me c.replace-theirs.result.me c.join_seat.new.seat.me c.split_seat-back.new.seat.me c.split_seat-back.result.me
    c.args.self.now c.args.other.now g.E.Event.actor is came c.join_seat.ensures.2 c.split_seat-back.ensures.2 c.split_seat-back.ensures.4 in
    (c.split_seat-back.ensures.3 ∙ c.join_seat.ensures.0 ∙ c.self.invariant.0, seats.1, c.other.invariant.2)
