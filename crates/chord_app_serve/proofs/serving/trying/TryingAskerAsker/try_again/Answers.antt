use Rattle.std.proofs.Common.{sym, ap, ◌∙◌, subst}
use Rattle.chord_app_serve.proofs.Trying.{tried_again}
use Rattle.chord_app_serve.specs.Tried.{TrySight, TriesBy}
use Rattle.chord_serve.specs.declared.asker.Asked.TheVariants.{NoAnswer}
use Rattle.chord_app_serve.proofs.serving.trying.TryingAskerAsker.try_again.Goals as goal

pub returns-clause-again : goal.returns-clause-again
returns-clause-again g c before q by =
    let old : TrySight = record { before = c.self.inside.before; via = c.self.inside.via; last = c.self.inside.last; waits = c.self.inside.waits; caller = c.self.inside.caller } in
    let here : TriesBy before q NoAnswer old = subst (λ (sight : TrySight). TriesBy before q NoAnswer sight) (sym c.self.view_is) by in
    tried_again before old c.answer_of_retry-answer.result c.try_call_again-ended.new.self c.retry_waits-self-inside.result c.try_call_again-ended.result c.try_call_again-ended.ensures.answer c.answer_of_retry-answer.ensures.told
    c.retry_waits-self-inside.ensures q here (here.1 c.if-not-self.false)
