-- Each next hop brings a lookup nearer.
use Rattle.std.proofs.Common.{rules}
use Rattle.chord_route.specs.declared.hop.Hop.TheVariants.{Last, Near}
use Rattle.chord_route.proofs.NextHop.{rule_nearer}
use Rattle.chord_route.proofs.hop.next_hop.Goals as goal

pub returns-then-contains-clause-on_ideal_ring : goal.returns-then-contains-clause-on_ideal_ring
returns-then-contains-clause-on_ideal_ring c = λ ring on ideal.
    rule_nearer ring c.args.links.now c.args.target.number (Last c.first-first.result) on ideal (search rules) (search rules)

pub returns-then-eq-clause-on_ideal_ring : goal.returns-then-eq-clause-on_ideal_ring
returns-then-eq-clause-on_ideal_ring c = λ ring on ideal.
    rule_nearer ring c.args.links.now c.args.target.number (Near c.first-first.result) on ideal (search rules) (search rules)

pub returns-else-eq-clause-on_ideal_ring : goal.returns-else-eq-clause-on_ideal_ring
returns-else-eq-clause-on_ideal_ring c = λ ring on ideal.
    rule_nearer ring c.args.links.now c.args.target.number (Near c.closest_preceding-nearest.result) on ideal (search rules) (search rules)
