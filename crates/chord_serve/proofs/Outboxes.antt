-- An answer behind what is due, some of which was written.
use Rattle.std.proofs.Common.{◌≤◌, ℕ, List, drop, length, Result, Ok, Err, ap, ◌∙◌}
use Rattle.std.proofs.lemmas.List.{drop-append-le}
use Rattle.chord_serve.specs.Stepping.{AnswersNext}
use Rattle.chord_serve.specs.declared.link.stage.Step.{Step}
use Rattle.chord_serve.specs.declared.link.stage.Step.TheVariants as steps
use Rattle.chord_serve.specs.declared.served.Served.{Served}

module _ {P : Type 0} (hears says : P → List ℕ → P → Type 0) (stops : Served → P → List ℕ → P → Type 0) (rests idle : P → Type 0) (begun : P → P → Type 0) where
  pub answered_behind : (start : ℕ) (step : Result Step Served) (before : P) (due due' : List ℕ) (after : P) → start ≤ length due
      → AnswersNext hears says stops rests idle begun step before due due' after → AnswersNext hears says stops rests idle begun step before (drop start due) (drop start due') after
  answered_behind start (Ok steps.Answered) before due due' after low (bytes, say, still, is) = (bytes, say, still, ap (drop start) is ∙ drop-append-le start due bytes low)
  answered_behind start (Ok steps.Nothing) before due due' after low (quiet, hear, still, is) = (quiet, hear, still, ap (drop start) is)
  answered_behind start (Ok steps.Later) before due due' after low (further, is) = (further, ap (drop start) is)
  answered_behind start (Err end) before due due' after low (bytes, stopped, is) = (bytes, stopped, ap (drop start) is ∙ drop-append-le start due bytes low)
