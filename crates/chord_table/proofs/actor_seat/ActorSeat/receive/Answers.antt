use Rattle.std.proofs.Common.{◌∙◌, ap, []}
use Rattle.chord_table.proofs.Keeping.{in_table, some_words, receive_as}
use Rattle.chord_table.specs.Views.{view_of}
use Rattle.chord_table.proofs.actor_seat.ActorSeat.receive.Goals as goal

pub join_seat-requires : goal.join_seat-requires
join_seat-requires g c =
    let at = in_table c.args.table.now.named c.self.invariant.0 c.envelope.invariant.0 (some_words c.self.invariant.2) in
    (at.0, at.1, ap (λ m. m.1) c.envelope.invariant.1, at.2, receive_as _ _ _ _ c.args.self.now c.envelope.inside.message (c.self.invariant.1 ∙ ap (λ s. (view_of s, [])) c.self.view_is) c.envelope.invariant.1)
