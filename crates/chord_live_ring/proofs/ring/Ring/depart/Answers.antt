-- The board is empty, and the seats that are there are of no member.
use Rattle.std.proofs.Common.{ap, sym, ◌∙◌, arith, length}
use Rattle.chord_live_ring.proofs.Departures.{none_may, out_then}
use Rattle.chord_live_ring.proofs.ring.Ring.depart.Goals as goal

pub depart_from-requires-clause-few : goal.depart_from-requires-clause-few
depart_from-requires-clause-few g c = let e = ap length (c.deref_mut-2.ensures.value ∙ c.clear.ensures) in omega (arith, e)

pub depart_from-requires-clause-board : goal.depart_from-requires-clause-board
depart_from-requires-clause-board g c = c.deref_mut-2.ensures.value ∙ c.clear.ensures ∙ sym c.args.register.now.rests.members

pub depart_from-requires-clause-may : goal.depart_from-requires-clause-may
depart_from-requires-clause-may g c = none_may c.args.departure c.args.register.now.numbers.taken c.args.register.now.rests

pub invariant_of-register : goal.invariant_of-register
invariant_of-register g c = record {
  rests = out_then c.args.departure c.args.register.now.numbers c.depart_from.new.numbers c.depart_from.result c.args.register.now.rests c.depart_from.ensures.done c.depart_from.ensures.kept;
}
