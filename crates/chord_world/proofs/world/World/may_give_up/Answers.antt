use Rattle.std.proofs.Common.{rules, ◌≡◌, true, false, arith}
use Rattle.chord_caller.specs.Answers.{is_pending}
use Rattle.chord_world.specs.View.{state_of}
use Rattle.chord_world.specs.State.{WorldState}
use Rattle.chord_world.proofs.Posting.{got, caller_stands}
use Rattle.chord_world.proofs.Speaking.{caller_in}
use Rattle.chord_world.proofs.world.World.may_give_up.Goals as goal

pub index-requires : goal.index-requires
index-requires g c =
    let within = caller_in c.args.caller _ c.args.self.now _ c.self.view_is c.self.invariant c.in_ok-is_caller.ensures.1.1 in
    omega arith

pub returns-then-not-is_pending : goal.returns-then-not-is_pending
returns-then-not-is_pending g c =
    let view : WorldState = state_of c.self.inside in
    let within = caller_in c.args.caller view c.args.self.now _ c.self.view_is c.self.invariant c.in_ok-is_caller.ensures.1.1 in
    let idle : is_pending c.args.number c.index.result.now ≡ false = search rules in (
      c.in_ok-is_caller.ensures.0,
      (c.index.result.now, caller_stands c.args.caller view c.args.self.now c.index.result.now c.self.view_is c.self.invariant (got view.world.callers c.args.caller c.index.result.now within c.index.ensures), idle),
    )

pub returns : goal.returns
returns g c =
    let view : WorldState = state_of c.self.inside in
    let within = caller_in c.args.caller view c.args.self.now _ c.self.view_is c.self.invariant c.in_ok-is_caller.ensures.1.1 in
    let pending : is_pending c.args.number c.index.result.now ≡ true = search rules in
    (c.index.result.now, caller_stands c.args.caller view c.args.self.now c.index.result.now c.self.view_is c.self.invariant (got view.world.callers c.args.caller c.index.result.now within c.index.ensures), pending)
