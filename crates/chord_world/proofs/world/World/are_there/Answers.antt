use Rattle.std.proofs.Common.{◌≡◌, length, ap, arith}
use Rattle.chord_world.specs.State.{WorldState}
use Rattle.chord_world.proofs.Posting.{caller_missing, caller_within}
use Rattle.chord_world.proofs.world.World.are_there.Goals as goal

pub returns-then-caller-len : goal.returns-then-caller-len
returns-then-caller-len g c =
    let nodes : length c.self.inside.nodes.items ≡ length c.args.self.now.world.nodes = ap (λ (w : WorldState). length w.world.nodes) c.self.view_is in
    (omega arith, caller_missing c.args.caller _ c.args.self.now c.self.view_is c.self.invariant (omega arith))

pub returns : goal.returns
returns g c =
    let nodes : length c.self.inside.nodes.items ≡ length c.args.self.now.world.nodes = ap (λ (w : WorldState). length w.world.nodes) c.self.view_is in
    let there = caller_within c.args.caller _ c.args.self.now c.self.view_is c.self.invariant (omega arith) in
    (there.0, (omega arith, there.1))
