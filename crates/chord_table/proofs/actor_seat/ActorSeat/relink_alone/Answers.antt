use Rattle.std.proofs.Common.{◌<◌, sym, ◌∙◌, ap, subst, []}
use Rattle.chord_table.proofs.Keeping.{seated_after}
use Rattle.chord_table.proofs.Relinking.{relink_alone_as}
use Rattle.chord_table.specs.Views.{TableId, view_of}
use Rattle.chord_table.proofs.actor_seat.ActorSeat.relink_alone.Goals as goal

pub load-requires : goal.load-requires
load-requires g c =
    let i = c.self.invariant in
    let is = i.1 ∙ ap (λ s. (view_of s, [])) c.self.view_is in
    let named = c.args.table.now.named in (
      i.0 ∙ sym named,
      subst (λ (t : TableId). c.self.inside.word < t.words) (sym named) i.2,
      relink_alone_as _ _ _ _ c.args.self.now g.E.Event.actor (λ n. n) is c.requires.step,
    )

pub invariant_of-self : goal.invariant_of-self
invariant_of-self g c =
    let i = c.self.invariant in
    let is = i.1 ∙ ap (λ s. (view_of s, [])) c.self.view_is in
    let seated = seated_after c.self.inside.seat.me c.load.new.seat.me c.args.self.now g.E.Event.actor is c.load.ensures.2 in
    (c.load.ensures.0 ∙ i.0, seated, i.2)
