use Rattle.std.proofs.Common.{◌≡◌, true, false, inl, inr, refl, sym, ap, subst, ◌∙◌, arith}
use Rattle.std.proofs.Math.Logic.{∥∥₁_map}
use Rattle.chord_serve.specs.declared.link.machine.Machine.{Machine}
use Rattle.chord_serve.specs.Runs.Run.{Stays, Goes}
use Rattle.chord_serve.specs.Taking.{WantsAdvance}
use Rattle.chord_serve.proofs.Tales.{step_answers}
use Rattle.chord_serve.proofs.link.connection.Link.answer_some.Goals as goal

pub invariant_of-self : goal.invariant_of-self
invariant_of-self g c =
    let p = g.P.Protocol in
    let s = g.S.Stream in
    let did = c.step.ensures in
    record { told = ∥∥₁_map c.loop.self.told (λ t. step_answers p.hears p.says p.stops p.rests p.idle p.begun p.between s.left s.held c.loop.self.machine c.step.new.self did.same did.step.0 did.step.3 did.step.1 did.step.5 (c.wants_advance.ensures.0 c.if-not-wants_advance.false).0 t) }

pub loop-init : goal.loop-init
loop-init g c = record { log = refl; stream = refl; run = Stays; start = λ _. refl; mark = refl }

pub loop-preserved : goal.loop-preserved
loop-preserved g c =
    let did = c.step.ensures in
    let before = c.loop.invariant in
    record {
      log = ap (λ m. m.first) did.same ∙ before.log;
      stream = ap (λ m. m.stream) did.same ∙ before.stream;
      run = Goes c.loop.counter c.loop.self.machine.protocol c.step.new.self.protocol c.loop.self.machine.due c.step.new.self.due did.step.0 before.run did.step.5;
      start = λ e. absurd (omega (arith, e));
      mark = before.mark;
    }

pub returns-then-not-wants_advance-clause-answered : goal.returns-then-not-wants_advance-clause-answered
returns-then-not-wants_advance-clause-answered g c =
    let now = c.loop.self.machine in
    let wants_none : WantsAdvance now.stage now.is_lost now.due → ⊥ = λ w.
    let is : true ≡ false = sym (c.wants_advance.ensures.1 w) ∙ c.if-not-wants_advance.true in cc in (
      c.loop.counter,
      c.loop.invariant.run,
      λ none w. wants_none (subst (λ (m : Machine g.row.P.Denot g.row.S.Denot). WantsAdvance m.stage m.is_lost m.due) (sym (c.loop.invariant.start none)) w),
      inr wants_none,
    )

pub returns-clause-answered : goal.returns-clause-answered
returns-clause-answered g c = (
  c.loop.counter,
  c.loop.invariant.run,
  λ none w. absurd (omega (arith, none, c.loop-test.false)),
  inl (omega (arith, c.loop-test.false)),
)
