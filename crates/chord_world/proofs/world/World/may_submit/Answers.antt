use Rattle.std.proofs.Common.{arith}
use Rattle.chord_world.specs.View.{state_of}
use Rattle.chord_world.specs.State.{WorldState}
use Rattle.chord_world.proofs.Posting.{got, submit_refused}
use Rattle.chord_world.proofs.Speaking.{caller_in, there_now}
use Rattle.chord_world.proofs.world.World.may_submit.Goals as goal

pub index-requires : goal.index-requires
index-requires g c =
    let within = caller_in c.args.caller _ c.args.self.now _ c.self.view_is c.self.invariant c.in_ok-are_there.ensures.1.1 in
    omega arith

pub returns-in-Some : goal.returns-in-Some
returns-in-Some g c =
    let view : WorldState = state_of c.self.inside in
    let within = caller_in c.args.caller view c.args.self.now _ c.self.view_is c.self.invariant c.in_ok-are_there.ensures.1.1 in
    submit_refused c.args.caller c.args.via c.args.request.now c.args.self.now c.in-Some.fault c.from.result c.from.ensures
    (record {
      core = c.index.result.now;
      there = there_now c.args.caller c.args.via view c.args.self.now _ c.index.result.now c.self.view_is c.self.invariant c.in_ok-are_there.ensures.1 (got view.world.callers c.args.caller c.index.result.now within c.index.ensures);
      refuses = c.in-Some.ensures.0;
    })

pub returns-in-None : goal.returns-in-None
returns-in-None g c =
    let view : WorldState = state_of c.self.inside in
    let within = caller_in c.args.caller view c.args.self.now _ c.self.view_is c.self.invariant c.in_ok-are_there.ensures.1.1 in
    record {
      core = c.index.result.now;
      there = there_now c.args.caller c.args.via view c.args.self.now _ c.index.result.now c.self.view_is c.self.invariant c.in_ok-are_there.ensures.1 (got view.world.callers c.args.caller c.index.result.now within c.index.ensures);
      refuses = c.in-None.ensures;
    }
