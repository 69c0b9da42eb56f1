use Rattle.std.proofs.Common.{inl}
use Rattle.chord_world.specs.Deeds.{DoesGive, RefusesGive}
use Rattle.chord_world.specs.Handing.{IsMissing, HasNode}
use Rattle.chord_world.specs.declared.deed.NodeDeed.TheVariants as deed
use Rattle.chord_world.proofs.Deeds.{allowed, refused_so}
use Rattle.chord_world.proofs.world.World.give.Goals as goal

pub returns-in_err-is_there-clause-answer : goal.returns-in_err-is_there-clause-answer
returns-in_err-is_there-clause-answer g c =
    refused_so (DoesGive c.args.node c.args.place c.args.to)
    (RefusesGive c.args.node c.args.place c.args.to)
    c.args.self.now c.in_err-is_there.field-0.0 c.from_residual.result
    (inl c.in_err-is_there.ensures)
    c.from_residual.ensures.1

pub returns-clause-answer : goal.returns-clause-answer
returns-clause-answer g c =
    allowed (HasNode c.args.to) (IsMissing c.args.to) (deed.Give c.args.place c.args.to) c.args.node
    c.args.self.now c.act.new.self c.act.result c.in_ok-is_there.ensures c.act.ensures.answer
