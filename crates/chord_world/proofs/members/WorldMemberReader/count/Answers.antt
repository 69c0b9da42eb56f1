use Rattle.std.proofs.Common.{arith}
use Rattle.chord_world.proofs.Acting.{count_is}
use Rattle.chord_world.proofs.members.WorldMemberReader.count.Goals as goal

pub returns : goal.returns
returns g c = count_is _ _ c.args.self.now c.self.view_is c.self.invariant (omega arith)
