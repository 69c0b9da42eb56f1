use Rattle.std.proofs.Common.{◌≡◌, ◌∙◌, ap, rules}
use Rattle.chord_live_ring.proofs.Departures.{gone_stays}
use Rattle.chord_model.specs.declared.phase.Phase.TheVariants.{Gone}
use Rattle.chord_table.specs.Views.{NodeSight}
use Rattle.chord_live_ring.proofs.ring.Ring.vacate.Goals as goal

pub returns-then-eq-clause-out : goal.returns-then-eq-clause-out
returns-then-eq-clause-out g c =
    let gone : c.in-Here.seated.node.phase ≡ Gone = search rules in
    λ out. gone_stays c.args.numbers.now c.take_node.new.self c.into_seat.result out
    (ap (λ (seat : NodeSight). seat.node.phase) c.into_seat.ensures ∙ gone) c.take_node.ensures
