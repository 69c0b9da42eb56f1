use Rattle.std.proofs.Common.{inl, inr, refl, ◌∙◌, ap, subst, arith}
use Rattle.chord_world.specs.declared.deed.NodeDeed.TheVariants as deed
use Rattle.chord_world.specs.Deeds.{DeedIs, DoesFinger, RefusesFinger}
use Rattle.chord_world.proofs.Deeds.{fingered, refused_so}
use Rattle.chord_world.proofs.Handing.{acts_within}
use Rattle.chord_world.proofs.Pointing.{node_stands}
use Rattle.chord_world.proofs.Posting.{got}
use Rattle.chord_world.proofs.world.World.finger.Goals.{then-finger-lt1-via-then-finger-lt1, then-finger-lt1-via-else-finger-lt1+then-finger-gt128}
use Rattle.chord_world.proofs.world.World.finger.Goals as goal

pub returns-in_err-is_there-clause-answer : goal.returns-in_err-is_there-clause-answer
returns-in_err-is_there-clause-answer g c =
    refused_so (DoesFinger c.args.node c.args.finger c.args.to)
    (RefusesFinger c.args.node c.args.finger c.args.to)
    c.args.self.now c.in_err-is_there.field-0.0 c.from_residual.result
    (inl c.in_err-is_there.ensures)
    c.from_residual.ensures.1

pub returns-in_err-can_act-clause-answer : goal.returns-in_err-can_act-clause-answer
returns-in_err-can_act-clause-answer g c =
    refused_so (DoesFinger c.args.node c.args.finger c.args.to)
    (RefusesFinger c.args.node c.args.finger c.args.to)
    c.args.self.now c.in_err-can_act.field-0.0 c.from_residual-in_err-can_act.result
    (inr (c.in_ok-is_there.ensures, inl c.in_err-can_act.ensures))
    c.from_residual-in_err-can_act.ensures.1

pub returns-then-finger-lt1-clause-answer : goal.returns-then-finger-lt1-clause-answer
returns-then-finger-lt1-clause-answer g c = (
  inr (
    c.in_ok-is_there.ensures,
    inr (
      c.in_ok-can_act.ensures,
      (λ fits. elim c.then-finger-lt1.branch [
        | then-finger-lt1-via-then-finger-lt1 w ↦ omega arith
        | then-finger-lt1-via-else-finger-lt1+then-finger-gt128 w ↦ omega arith
      ]),
      refl,
    ),
  ),
  refl,
)

pub returns-clause-answer : goal.returns-clause-answer
returns-clause-answer g c =
    let within = acts_within c.args.to _ c.args.self.now c.self.view_is c.self.invariant
    c.in_ok-is_there.ensures in
    let there = node_stands c.args.to _ c.args.self.now c.index.result.now c.self.view_is
    c.self.invariant
    (got c.self.inside.nodes.items c.args.to c.index.result.now within c.index.ensures) in
    fingered c.args.node c.args.finger c.args.to c.index.result.now c.args.self.now
    c.act.new.self c.act.result there
    (omega arith, omega arith)
    (subst (λ p. DeedIs (deed.SetFinger c.args.finger p) c.args.node c.args.self.now c.act.result
    c.act.new.self)
    (c.me-peer.ensures ∙ ap (λ l. l.me) c.links.ensures) c.act.ensures.answer)
