use Rattle.std.proofs.Common.{sym, ◌∙◌, ap, subst, [], Some}
use Rattle.chord_model.specs.declared.message.Message.{Message}
use Rattle.chord_table.proofs.Keeping.{in_table, seated_after, some_words, send_as}
use Rattle.chord_table.specs.Views.{view_of, MayBecome}
use Rattle.chord_table.proofs.actor_seat.ActorSeat.send.Goals as goal

pub split_seat-seat-requires : goal.split_seat-seat-requires
split_seat-seat-requires g c =
    let at = in_table c.args.table.now.named c.self.invariant.0 c.self.invariant.0 (some_words c.self.invariant.2) in
    let event = subst (λ (m : Message). MayBecome c.args.self.now.actor c.args.self.now.messages g.E.Event.actor (Some m)) (sym c.requires.picked) c.requires.event in
    (at.0, at.2, send_as _ _ c.args.self.now _ _ (c.self.invariant.1 ∙ ap (λ s. (view_of s, [])) c.self.view_is) event)

pub invariant_of-self : goal.invariant_of-self
invariant_of-self g c =
    let i = c.self.invariant in
    let seated = seated_after c.self.inside.seat.me c.split_seat-seat.new.seat.me c.args.self.now g.E.Event.actor (i.1 ∙ ap (λ s. (view_of s, [])) c.self.view_is) c.split_seat-seat.ensures.2 in
    (c.split_seat-seat.ensures.0 ∙ i.0, seated, i.2)
