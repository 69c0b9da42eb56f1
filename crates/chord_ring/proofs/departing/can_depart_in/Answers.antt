-- The principal that settles the others is found.
use Rattle.std.proofs.Common.{rules}
use Rattle.chord_ring.proofs.departing.can_depart_in.Goals as goal

pub returns-then-are_live : goal.returns-then-are_live
returns-then-are_live g c = (λ yes. search rules, λ can. c.has_principal.ensures.number can.1.principal.0 can.1.principal.1)
