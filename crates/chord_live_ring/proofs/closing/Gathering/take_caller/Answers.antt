use Rattle.std.proofs.Common.{List, length, ◌+◌, ap, ◌∙◌}
use Rattle.chord_live_ring.proofs.Gathering.{callers_with, nodes_without, one_caller_more}
use Rattle.chord_table.specs.Seen.{Sight}
use Rattle.chord_table.specs.Views.{Assembled, callers_among, nodes_among}
use Rattle.chord_live_ring.proofs.closing.Gathering.take_caller.Goals as goal

pub invariant_of-self : goal.invariant_of-self
invariant_of-self g c =
    let caller = c.args.caller in
    let seats = c.args.self.now.seats in
    let taken = ap (λ (a : Assembled). a.taken) c.take_caller.ensures in
    record {
      nodes_are = λ n is.
          ap (λ (l : List Sight). length (nodes_among l)) taken
          ∙ ap length (nodes_without seats.taken caller.caller caller.messages)
          ∙ c.args.self.now.nodes_are n is;
      callers_are = λ n is.
          let (before, was, more) = c.one_more-self.ensures n is in
          ap (λ (l : List Sight). length (callers_among l)) taken
          ∙ one_caller_more seats.taken caller.caller caller.messages
          ∙ ap (λ k. k + 1) (c.args.self.now.callers_are before was) ∙ more;
    }

pub returns-clause-callers : goal.returns-clause-callers
returns-clause-callers g c =
    ap (λ (a : Assembled). callers_among a.taken) c.take_caller.ensures
    ∙ callers_with c.args.self.now.seats.taken c.args.caller.caller c.args.caller.messages
