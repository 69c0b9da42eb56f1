-- On a settled ring the lookup ends well, and an ideal ring is settled.
use Rattle.std.proofs.Common.{rules, sym, subst}
use Rattle.chord_route.proofs.FewForwards.{few_forwards}
use Rattle.chord_route.specs.IdealRing.{IsSuccessor}
use Rattle.chord_route.proofs.Settled.{reads_settled}
use Rattle.chord_route.proofs.lookup.find_successor.Goals as goal

pub returns-in_err-look_up-clause-on_settled_ring : goal.returns-in_err-look_up-clause-on_settled_ring
returns-in_err-look_up-clause-on_settled_ring g c = λ ring reads. absurd (c.in_err-look_up.ensures.on_settled_ring ring reads)

pub returns-clause-on_settled_ring : goal.returns-clause-on_settled_ring
returns-clause-on_settled_ring g c = λ ring reads. subst (IsSuccessor ring c.args.target.number) (sym c.first.ensures) (c.in_ok-look_up.ensures.on_settled_ring ring reads).1

pub returns-in_err-look_up-clause-on_ideal_ring : goal.returns-in_err-look_up-clause-on_ideal_ring
returns-in_err-look_up-clause-on_ideal_ring g c = λ ring reads. returns-in_err-look_up-clause-on_settled_ring g c ring (reads_settled reads)

pub returns-clause-on_ideal_ring : goal.returns-clause-on_ideal_ring
returns-clause-on_ideal_ring g c = λ ring reads. returns-clause-on_settled_ring g c ring (reads_settled reads)

pub returns-in_err-look_up-clause-few_forwards : goal.returns-in_err-look_up-clause-few_forwards
returns-in_err-look_up-clause-few_forwards g c = λ ring reads n here comes.
    few_forwards (g.R.LinkReader.answers c.args.reader.now) ring (g.R.LinkReader.slot_count c.args.reader.now) c.args.from c.args.target.number n here (search rules) reads comes

pub returns-clause-few_forwards : goal.returns-clause-few_forwards
returns-clause-few_forwards g c = λ ring reads n here comes.
    few_forwards (g.R.LinkReader.answers c.args.reader.now) ring (g.R.LinkReader.slot_count c.args.reader.now) c.args.from c.args.target.number n here (search rules) reads comes
