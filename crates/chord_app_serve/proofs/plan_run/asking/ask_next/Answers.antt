use Rattle.std.proofs.Common.{sym, subst}
use Rattle.chord_app_serve.proofs.Together.{answers_next}
use Rattle.chord_app_serve.specs.Together.{AreAnswers}
use Rattle.chord_app_serve.specs.declared.plan_run.asking.AskResult.{AskResult}
use Rattle.std.specs.Prelude.{List}
use Rattle.chord_app_serve.proofs.plan_run.asking.ask_next.Goals as goal

pub returns-clause-answers : goal.returns-clause-answers
returns-clause-answers g c =
    subst (λ (results : List AskResult). AreAnswers c.ask_once.new.client.caller results) (sym c.in_ok-push.ensures)
    (answers_next c.args.ask.now.request c.args.client.now.caller c.ask_once.new.client.caller c.args.results.now c.in_ok-asked.asked c.requires c.in_ok-asked.ensures)
