use Rattle.std.proofs.Common.{◌≡◌, ◌+◌, ◌^◌, ◌<◌, ◌≤◌, ℕ, List, Result, refl, subst, inl, inr, ⊎_elim, rules}
use Rattle.std.proofs.lemmas.Bool.{cases_lt, false≢true}
use Rattle.chord_app_serve.proofs.Asked.{heard_again, heard_no_number}
use Rattle.chord_app_serve.proofs.Settling.{asked_stays}
use Rattle.chord_app_serve.specs.Asked.{asked_since}
use Rattle.chord_live_steps.specs.Asking.{RetryIs}
use Rattle.chord_live_steps.specs.Ending.{AwaitIs}
use Rattle.chord_live_types.specs.declared.caller.RetryFault.{RetryFault}
use Rattle.chord_map.specs.declared.reply.Reply.{Reply}
use Rattle.chord_map.specs.declared.request.Request.{Request}
use Rattle.chord_serve.specs.Question.{Retry, IsHeard}
use Rattle.chord_app_serve.proofs.serving.trying.TryingAskerAsker.retry.Goals as goal

pub returns-clause-answer : goal.returns-clause-answer
returns-clause-answer g c =
    let asker = c.self.inside in
    let settled = c.settle.new.caller in
    let new = c.try_call_again-ended.new.self in
    let upto = asker.before + c.args.floor in
    let place : c.in-Some.submitted ≡ asker.before + c.args.number = search rules in
    let sent : RetryIs AwaitIs (asker.before + c.args.number) settled c.try_call_again-ended.result new =
    subst (λ (number : ℕ). RetryIs AwaitIs number settled c.try_call_again-ended.result new) place c.try_call_again-ended.ensures.answer in
    rw (← c.self.view_is) (
      (
        subst (λ (before : List Request). IsHeard (Retry c.args.number c.args.floor) c.answer_of_retry-answer.result before (asked_since asker.before new))
            (asked_stays asker.before upto asker.caller settled c.settle.ensures)
            (heard_again asker.before c.args.number c.args.floor c.try_call_again-ended.result c.answer_of_retry-answer.result settled new sent c.answer_of_retry-answer.ensures.told),
        refl,
        refl,
        (settled, c.settle.ensures, inl (c.try_call_again-ended.result, sent, c.answer_of_retry-answer.ensures.told)),
      ),
      λ waits. (settled, c.settle.ensures, place, subst (λ (ended : Result Reply RetryFault). RetryIs AwaitIs (asker.before + c.args.number) settled ended new) (c.retry_waits-self-inside.ensures waits) sent),
    )

pub returns-in_default-clause-answer : goal.returns-in_default-clause-answer
returns-in_default-clause-answer g c =
    let asker = c.self.inside in
    let settled = c.settle.new.caller in
    let upto = asker.before + c.args.floor in
    let big : 2 ^ 64 ≤ asker.before + c.args.number =
    ⊎_elim
    (λ (less : asker.before + c.args.number < 2 ^ 64). absurd (c.in_default.ensures less))
    (λ (most : 2 ^ 64 ≤ asker.before + c.args.number). most)
    (cases_lt (asker.before + c.args.number) (2 ^ 64)) in
    rw (← c.self.view_is) (
      (
        heard_no_number c.args.number c.args.floor (asked_since asker.before asker.caller) (asked_since asker.before settled)
            (asked_stays asker.before upto asker.caller settled c.settle.ensures),
        refl,
        refl,
        (settled, c.settle.ensures, inr (refl, big, refl)),
      ),
      λ waits. absurd (false≢true waits),
    )
