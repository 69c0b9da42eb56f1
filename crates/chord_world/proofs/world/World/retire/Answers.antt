use Rattle.std.proofs.Common.{◌≡◌, ◌⊎◌, false, inl, inr, refl, subst}
use Rattle.chord_world.specs.declared.deed.NodeDeed.TheVariants as deed
use Rattle.chord_world.specs.declared.refusal.Refusal.TheVariants as refused
use Rattle.chord_world.specs.Handing.{IsMissing, HasNode, IsNeeded, NeededIs}
use Rattle.chord_world.proofs.Deeds.{allowed}
use Rattle.chord_world.proofs.world.World.retire.Goals as goal

pub returns-then-is_needed-clause-answer : goal.returns-then-is_needed-clause-answer
returns-then-is_needed-clause-answer g c =
    let needed = subst (NeededIs c.args.node c.args.self.now) c.if-is_needed.true
    c.is_needed.ensures in
    (inl (inr (c.in_ok-is_there.ensures, needed, refl)), refl)

pub act-requires : goal.act-requires
act-requires g c =
    subst (NeededIs c.args.node c.args.self.now) c.if-is_needed.false c.is_needed.ensures

pub returns-clause-answer : goal.returns-clause-answer
returns-clause-answer g c =
    allowed (λ o. NeededIs c.args.node o false)
    (λ o refusal. IsMissing c.args.node o refusal
    ⊎ (HasNode c.args.node o × IsNeeded c.args.node o × (refusal ≡ refused.Unsafe)))
    deed.Retire c.args.node c.args.self.now c.act.new.self c.act.result
    (subst (NeededIs c.args.node c.args.self.now) c.if-is_needed.false c.is_needed.ensures)
    c.act.ensures.answer
