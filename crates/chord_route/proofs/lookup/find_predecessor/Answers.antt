-- On a settled ring the lookup ends well, and an ideal ring is settled.
use Rattle.std.proofs.Common.{sym, subst}
use Rattle.chord_route.specs.IdealRing.{IsPredecessor}
use Rattle.chord_route.proofs.Settled.{reads_settled}
use Rattle.chord_route.proofs.lookup.find_predecessor.Goals as goal

pub returns-in_err-look_up-clause-on_settled_ring : goal.returns-in_err-look_up-clause-on_settled_ring
returns-in_err-look_up-clause-on_settled_ring g c = λ ring reads. absurd (c.in_err-look_up.ensures.on_settled_ring ring reads)

pub returns-clause-on_settled_ring : goal.returns-clause-on_settled_ring
returns-clause-on_settled_ring g c = λ ring reads. subst (IsPredecessor ring c.args.target.number) (sym c.me.ensures) (c.in_ok-look_up.ensures.on_settled_ring ring reads).0

pub returns-in_err-look_up-clause-on_ideal_ring : goal.returns-in_err-look_up-clause-on_ideal_ring
returns-in_err-look_up-clause-on_ideal_ring g c = λ ring reads. returns-in_err-look_up-clause-on_settled_ring g c ring (reads_settled reads)

pub returns-clause-on_ideal_ring : goal.returns-clause-on_ideal_ring
returns-clause-on_ideal_ring g c = λ ring reads. returns-clause-on_settled_ring g c ring (reads_settled reads)
