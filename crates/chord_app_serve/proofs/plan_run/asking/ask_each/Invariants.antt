use Rattle.std.proofs.Common.{◌≡◌, take}
use Rattle.chord_app_serve.specs.Together.{AreAnswers, requests_of, taken_requests}
use Rattle.chord_app_serve.proofs.plan_run.asking.ask_each.Given as goal

abbrev pub invariant-loop-ask : goal.invariant-loop-ask
invariant-loop-ask g l = AreAnswers l.client.caller l.results × (taken_requests l.client.caller ≡ requests_of l.number (take l.ask-index l.asks))
