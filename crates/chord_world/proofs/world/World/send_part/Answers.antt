use Rattle.std.proofs.Common.{inl, inr, None, ◌≡◌, ◌⊎◌, refl, arith}
use Rattle.chord_model.specs.World.{node_at}
use Rattle.chord_world.specs.declared.deed.NodeDeed.TheVariants as deed
use Rattle.chord_world.specs.declared.refusal.Refusal.TheVariants as refused
use Rattle.chord_world.specs.declared.refusal.StepFault.TheVariants as step_fault
use Rattle.chord_world.specs.Handing.{CanAct, CannotAct, HasNode}
use Rattle.chord_world.proofs.Deeds.{allowed}
use Rattle.chord_world.proofs.Handing.{has_node}
use Rattle.chord_world.proofs.Pointing.{node_missing}
use Rattle.chord_world.proofs.world.World.send_part.Goals as goal

pub returns-then-to-len-clause-answer : goal.returns-then-to-len-clause-answer
returns-then-to-len-clause-answer g c =
    let missing = node_missing c.args.to _ c.args.self.now c.self.view_is c.self.invariant
    (omega arith) in
    (inl (inr (c.in_ok-can_act.ensures, missing, refl)), refl)

pub act-requires : goal.act-requires
act-requires g c =
    has_node c.args.to _ c.args.self.now c.self.view_is c.self.invariant (omega arith)

pub returns-clause-answer : goal.returns-clause-answer
returns-clause-answer g c =
    allowed (HasNode c.args.to)
    (λ o refusal. CannotAct c.args.node o refusal
    ⊎ (CanAct c.args.node o × (node_at c.args.to o.world.nodes ≡ None)
    × (refusal ≡ refused.Step step_fault.NoPart)))
    (deed.SendPart c.args.to c.args.number c.args.part) c.args.node c.args.self.now
    c.act.new.self c.act.result
    (has_node c.args.to _ c.args.self.now c.self.view_is c.self.invariant
    (omega arith)) c.act.ensures.answer
