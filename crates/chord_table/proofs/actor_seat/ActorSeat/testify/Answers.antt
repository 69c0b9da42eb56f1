use Rattle.std.proofs.Common.{◌∙◌, ap, []}
use Rattle.chord_table.proofs.Keeping.{in_table, some_words, testify_as}
use Rattle.chord_table.specs.Views.{view_of, caller_in}
use Rattle.chord_table.proofs.actor_seat.ActorSeat.testify.Goals as goal

pub split_seat-seat-requires : goal.split_seat-seat-requires
split_seat-seat-requires g c =
    let at = in_table c.args.table.now.named c.self.invariant.0 c.self.invariant.0 (some_words c.self.invariant.2) in
    (at.0, at.2, testify_as _ _ c.args.self.now (caller_in c.args.self.now.actor) (c.self.invariant.1 ∙ ap (λ s. (view_of s, [])) c.self.view_is) c.requires.calls)
