use Rattle.std.proofs.Common.{ℕ, take, Option, IfSome, arith, sym, subst}
use Rattle.std.specs.List.{All}
use Rattle.std.proofs.lemmas.List.Elements.{All-nil}
use Rattle.chord_app_serve.specs.Gaps.{IsBound}
use Rattle.chord_app_serve.specs.declared.gap.Gap.{Gap}
use Rattle.chord_app_serve.proofs.Gaps.{IsWidestOf, widest_of_all, there_is, widest_stays, widest_next}
use Rattle.chord_ident.specs.declared.id.Id.{Id}
use Rattle.chord_app_serve.proofs.gap.Gap.widest.Goals.{in-Some, in_default-2, in_default}
use Rattle.chord_app_serve.proofs.gap.Gap.widest.Goals as goal

pub loop-id-preserved : goal.loop-id-preserved
loop-id-preserved c =
    let ids = c.args.ids.now in let i = c.loop-id.id-index in
    let some : Id = record { number = 0 } in
    let gap = c.behind-gap.result in let says = c.behind-gap.ensures in
    elim c.match-widest.branch [
      | in-Some w ↦
          let so_far = subst (λ (o : Option Gap). IfSome o (IsWidestOf ids i)) w.in-Some.is c.loop-id.invariant.0 in
          there_is ids _ _ w.in-Some.found w.widest-is (widest_stays ids i gap.width some w.in-Some.found c.loop-id-test.true w.if-gap-found.true says.widest so_far)
      | in_default-2 w ↦
          let so_far = subst (λ (o : Option Gap). IfSome o (IsWidestOf ids i)) w.in-Some.is c.loop-id.invariant.0 in
          there_is ids _ _ gap w.widest-is (widest_next ids i w.in-Some.found.width some gap c.loop-id-test.true (omega (arith, w.if-gap-found.false)) so_far.2 says.after says.free says.widest)
      | in_default w ↦
          let none_yet = subst (λ (n : ℕ). All (IsBound ids 0) (take n ids)) (sym (c.loop-id.invariant.1 w.in_default.is)) (All-nil (IsBound ids 0)) in
          there_is ids _ _ gap w.widest-is (widest_next ids i 0 some gap c.loop-id-test.true (omega arith) none_yet says.after says.free says.widest)
    ]

pub returns-clause-some : goal.returns-clause-some
returns-clause-some c = widest_of_all c.args.ids.now c.loop-id.id-index c.loop-id.widest c.loop-id-test.false c.loop-id.invariant.0
