use Rattle.std.proofs.Common.{refl, arith, rules}
use Rattle.chord_ring.specs.Ring.{CanDepart}
use Rattle.chord_world.specs.View.{state_of}
use Rattle.chord_world.specs.State.{WorldState, ring_of}
use Rattle.chord_world.proofs.Posting.{created, not_zero}
use Rattle.chord_world.proofs.Upkeeping.{out_within, crashes}
use Rattle.chord_world.proofs.Acting.{keeps_all}
use Rattle.chord_world.proofs.Handing.{is_zero, uncreated}
use Rattle.chord_world.proofs.world.World.crash.Goals as goal

pub index_mut-requires : goal.index_mut-requires
index_mut-requires g c =
    let view : WorldState = state_of c.self.inside in
    let can : CanDepart (ring_of c.args.self.now).members c.args.node = search rules in
    let within = out_within c.args.node view c.args.self.now c.self.view_is c.self.invariant can in omega arith

pub invariant_of-self : goal.invariant_of-self
invariant_of-self g c =
    let view : WorldState = state_of c.self.inside in
    let can : CanDepart (ring_of c.args.self.now).members c.args.node = search rules in
    (crashes c.args.node view c.args.self.now _ c.self.view_is c.self.invariant (created _ c.args.self.now c.self.view_is (let some = not_zero _ c.if-is_empty.ensures in omega arith)) can refl).world

pub returns-clause-ring : goal.returns-clause-ring
returns-clause-ring g c =
    let view : WorldState = state_of c.self.inside in
    let can : CanDepart (ring_of c.args.self.now).members c.args.node = search rules in
    (crashes c.args.node view c.args.self.now _ c.self.view_is c.self.invariant (created _ c.args.self.now c.self.view_is (let some = not_zero _ c.if-is_empty.ensures in omega arith)) can refl).ring

pub returns-then-is_empty : goal.returns-then-is_empty
returns-then-is_empty g c = record {
  answer = (uncreated _ c.args.self.now c.self.view_is (let none = is_zero _ c.if-is_empty.ensures in omega arith), refl);
  known = refl;
  ring = keeps_all c.args.self.now;
}

pub returns-then-is_none-clause-ring : goal.returns-then-is_none-clause-ring
returns-then-is_none-clause-ring g c = keeps_all c.args.self.now

pub returns-then-not-can_depart_in-clause-ring : goal.returns-then-not-can_depart_in-clause-ring
returns-then-not-can_depart_in-clause-ring g c = keeps_all c.args.self.now
