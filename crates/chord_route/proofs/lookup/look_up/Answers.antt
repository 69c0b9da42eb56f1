-- On a settled ring each node that is asked exists,
-- and the lookup ends well before it has asked all.
use Rattle.std.proofs.Common.{rules, arith, ◌^◌, ◌<◌}
use Rattle.chord_route.proofs.Settled.{start_is_there, next_is_there, ends_well, ends_soon}
use Rattle.chord_route.proofs.lookup.look_up.Goals as goal

pub returns-in_default-clause-on_settled_ring : goal.returns-in_default-clause-on_settled_ring
returns-in_default-clause-on_settled_ring g c = λ ring reads.
    start_is_there (g.R.LinkReader.answers c.args.reader.now) (g.R.LinkReader.slot_count c.args.reader.now) c.args.from ring reads c.in_default.ensures

pub returns-in-Last-clause-on_settled_ring : goal.returns-in-Last-clause-on_settled_ring
returns-in-Last-clause-on_settled_ring g c = λ ring reads.
    let on_circle : c.args.target.number < 2 ^ 128 = search rules in
    ends_well (g.R.LinkReader.answers c.args.reader.now) (g.R.LinkReader.slot_count c.args.reader.now) c.args.from c.args.target.number c.loop-forwards.forwards
    c.loop-forwards.here ring on_circle reads c.loop-forwards.invariant c.in-Last.field-0 c.in-Last.ensures.rule

pub returns-in-None-clause-on_settled_ring : goal.returns-in-None-clause-on_settled_ring
returns-in-None-clause-on_settled_ring g c = λ ring reads.
    let on_circle : c.args.target.number < 2 ^ 128 = search rules in
    next_is_there (g.R.LinkReader.answers c.args.reader.now) (g.R.LinkReader.slot_count c.args.reader.now) c.args.from c.args.target.number c.loop-forwards.forwards
    c.loop-forwards.here ring on_circle reads c.loop-forwards.invariant c.in-Near.peer c.in-Near.ensures.rule c.in-None.ensures

pub returns-clause-on_settled_ring : goal.returns-clause-on_settled_ring
returns-clause-on_settled_ring g c = λ ring reads.
    let on_circle : c.args.target.number < 2 ^ 128 = search rules in
    let soon =
    ends_soon (g.R.LinkReader.answers c.args.reader.now) (g.R.LinkReader.slot_count c.args.reader.now) c.args.from c.args.target.number c.loop-forwards.forwards
    c.loop-forwards.here ring on_circle reads c.loop-forwards.invariant in
    omega (arith, soon, c.slots.ensures, c.from-forwards-end.ensures)
