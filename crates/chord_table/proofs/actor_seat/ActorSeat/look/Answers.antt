use Rattle.std.proofs.Common.{◌<◌, sym, ap, ◌∙◌, subst}
use Rattle.chord_table.proofs.Keeping.{some_words, look_at, shown_true}
use Rattle.chord_table.specs.Views.{TableId, view_of}
use Rattle.chord_table.proofs.actor_seat.ActorSeat.look.Goals as goal

pub load-requires : goal.load-requires
load-requires g c =
    let i = c.self.invariant in
    let named = c.args.table.now.named in (
      i.0 ∙ sym named,
      subst (λ (t : TableId). 0 < t.words) (sym named) (some_words i.2),
      look_at _ _ _ _ _ (λ n. n) i.1,
    )

pub returns-clause-shown : goal.returns-clause-shown
returns-clause-shown g c = shown_true c.self.invariant.1 (ap view_of c.self.view_is) c.load.ensures.2.1
