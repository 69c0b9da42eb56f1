use Rattle.std.proofs.Common.{List, length, ◌+◌, ap, ◌∙◌}
use Rattle.chord_live_ring.proofs.Gathering.{callers_without, one_node_more}
use Rattle.chord_table.specs.Seen.{Sight}
use Rattle.chord_table.specs.Views.{Assembled, callers_among, nodes_among}
use Rattle.chord_live_ring.proofs.closing.Gathering.take_node.Goals as goal

pub invariant_of-self : goal.invariant_of-self
invariant_of-self g c =
    let seat = c.into_seat.result in
    let seats = c.args.self.now.seats in
    let taken = ap (λ (a : Assembled). a.taken) c.take_node.ensures in
    record {
      nodes_are = λ n is.
          let (before, was, more) = c.one_more-self.ensures n is in
          ap (λ (l : List Sight). length (nodes_among l)) taken
          ∙ one_node_more seats.taken seat.node seat.crashed seat.messages
          ∙ ap (λ k. k + 1) (c.args.self.now.nodes_are before was) ∙ more;
      callers_are = λ n is.
          ap (λ (l : List Sight). length (callers_among l)) taken
          ∙ ap length (callers_without seats.taken seat.node seat.crashed seat.messages)
          ∙ c.args.self.now.callers_are n is;
    }

pub returns-clause-callers : goal.returns-clause-callers
returns-clause-callers g c =
    let seat = c.into_seat.result in
    ap (λ (a : Assembled). callers_among a.taken) c.take_node.ensures
    ∙ callers_without c.args.self.now.seats.taken seat.node seat.crashed seat.messages
