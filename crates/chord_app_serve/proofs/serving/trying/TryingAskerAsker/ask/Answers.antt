use Rattle.std.proofs.Common.{◌≤◌, length, refl, subst, sym, ◌∙◌, inr, arith}
use Rattle.std.proofs.lemmas.Bool.{false≢true}
use Rattle.chord_app_serve.proofs.Asked.{heard_nothing}
use Rattle.chord_app_serve.proofs.Trying.{tried_first}
use Rattle.chord_app_serve.specs.Asked.{asked_since}
use Rattle.chord_app_serve.specs.Tried.{TrySight, TriesBy}
use Rattle.chord_live_steps.specs.Asking.{CallIs}
use Rattle.chord_live_steps.specs.Ending.{AwaitIs}
use Rattle.chord_map.specs.declared.request.Request.{Request}
use Rattle.chord_serve.specs.Question.{Ask}
use Rattle.chord_serve.specs.declared.asker.Asked.TheVariants as asked
use Rattle.chord_app_serve.proofs.serving.trying.TryingAskerAsker.ask.Goals as goal

pub returns-in_default-clause-answer : goal.returns-in_default-clause-answer
returns-in_default-clause-answer g c =
    let asker = c.self.inside in
    let settled = c.settle.new.caller in
    rw (← c.self.view_is) (
      (
        heard_nothing c.args.request.now c.args.floor asked.Memory (asked_since asker.before asker.caller) (asked_since asker.before settled) refl,
        refl,
        refl,
        (settled, c.settle.ensures, inr (refl, λ short. false≢true (c.in_default.ensures.short short), refl)),
      ),
      λ waits. absurd (false≢true waits),
    )

pub returns-clause-answer : goal.returns-clause-answer
returns-clause-answer g c =
    let asker = c.self.inside in
    let settled = c.settle.new.caller in
    let new = c.call-ended.new.self in
    let old : TrySight = record { before = asker.before; via = asker.via; last = asker.last; waits = asker.waits; caller = asker.caller } in
    let begins : old.before ≤ length old.caller.caller.submitted = let low = c.self.invariant.0 in let same = c.self.invariant.1 in omega (arith, low, same) in
    let called : CallIs AwaitIs c.args.request.now settled c.call-ended.result new.caller =
    subst (λ (request : Request). CallIs AwaitIs request settled c.call-ended.result new.caller) c.in-Ok.ensures.copy c.call-ended.ensures.answer in
    rw (← c.self.view_is) (
    subst (λ (s : TrySight). TriesBy old (Ask c.args.request.now c.args.floor) c.answer_of_call-answer.result (record s { waits = c.call_waits-self-inside.result }))
    (sym (c.self-2.view_is ∙ c.call-ended.ensures.same))
    (tried_first old settled c.args.request.now c.args.floor c.answer_of_call-answer.result new.caller new.last c.call_waits-self-inside.result c.call-ended.result begins c.settle.ensures called
    c.answer_of_call-answer.ensures.told c.call-ended.ensures.last c.call_waits-self-inside.ensures)
    )
